-- `do_view_change::record::tell_primary` meets its contract. Assumes nothing.
use Rattle.do_view_change.proofs.TellLaws.{tell-short, tell-small, tell-in, tell-asks, both_small, tells}
use native.Mathlib.Omega.{arith}
use Rattle.config.proofs.SetupLaws.{sized}
use Rattle.do_view_change.proofs.record.tell_primary.Goals as goal

pub overflow_add-first_len : goal.overflow_add-first_len
overflow_add-first_len c =
    let a = c.args in
    omega (arith, tell-small a.s a.t a.first a.log.now a.out.now _ c.first_len.ensures c.requires)

pub returns-then-out-first_len : goal.returns-then-out-first_len
returns-then-out-first_len c =
    let a = c.args in
    tell-short a.s a.t a.first a.log.now a.out.now _ c.first_len.ensures _ c.if-out-first_len.true
    c.refused.ensures

pub primary_id-to-requires : goal.primary_id-to-requires
primary_id-to-requires c =
    let z = sized c.args.t.setup c.requires.sized in
    omega (arith, z.three)

pub slice_bounds-do_view_change-count : goal.slice_bounds-do_view_change-count
slice_bounds-do_view_change-count c =
    let a = c.args in
    tell-in a.s a.t a.first a.log.now a.out.now _ c.first_len.ensures c.requires c.if-out-first_len.false _ _
    c.call_first-w.ensures

pub slice_bounds-do_view_change-start : goal.slice_bounds-do_view_change-start
slice_bounds-do_view_change-start c = omega (
  arith,
  (let a = c.args in
      tell-in a.s a.t a.first a.log.now a.out.now _ c.first_len.ensures c.requires c.if-out-first_len.false _ _
      c.call_first-w.ensures),
)

pub do_view_change-k-requires : goal.do_view_change-k-requires
do_view_change-k-requires c =
    let a = c.args in
    tell-asks a.s a.t a.first a.log.now a.out.now _ c.first_len.ensures c.requires c.if-out-first_len.false _ _
    c.call_first-w.ensures

pub overflow_add-w : goal.overflow_add-w
overflow_add-w c =
    let a = c.args in
    omega (
      arith,
      both_small a.s a.t a.first a.log.now a.out.now _ c.first_len.ensures c.requires c.if-out-first_len.false _ _
          c.call_first-w.ensures _ _ _ c.primary_id-to.ensures.0 c.do_view_change-k.ensures,
    )

pub returns : goal.returns
returns c =
    let a = c.args in
    tells a.s a.t a.first a.log.now a.out.now _ c.first_len.ensures c.requires c.if-out-first_len.false _ _
    c.call_first-w.ensures _ _ _ c.primary_id-to.ensures.0 c.do_view_change-k.ensures _ c.done.ensures
