-- `voting::tick::next_view_asking` meets its contract. Assumes nothing.
use Rattle.voting.proofs.TickLaws.{none_after, view-small, asking-short, calls-in, calls-ask, both_small, asks-on}
use native.Mathlib.Omega.{arith}
use Rattle.config.proofs.SetupLaws.{sized}
use Rattle.voting.proofs.tick.next_view_asking.Goals as goal

pub returns-then-in_last_view : goal.returns-then-in_last_view
returns-then-in_last_view c =
    let a = c.args in
    none_after a.s a.c a.out.now _ c.in_last_view.ensures c.if-in_last_view.true _ c.refused.ensures

pub overflow_sub-s : goal.overflow_sub-s
overflow_sub-s c =
    let z = sized c.args.s.setup c.requires in
    omega (arith, z.three)

pub returns-then-out-s : goal.returns-then-out-s
returns-then-out-s c =
    let a = c.args in
    asking-short a.s a.c a.out.now _ c.in_last_view.ensures c.if-in_last_view.false _ c.if-out-s.true c.refused-then-out-s.ensures

pub primary_id-to-requires : goal.primary_id-to-requires
primary_id-to-requires c =
    let z = sized c.args.s.setup c.requires in
    omega (arith, z.three)

pub overflow_add-v : goal.overflow_add-v
overflow_add-v c =
    let a = c.args in
    omega (arith, view-small a.s a.c a.out.now _ c.in_last_view.ensures c.if-in_last_view.false)

pub slice_bounds-call_others-count : goal.slice_bounds-call_others-count
slice_bounds-call_others-count c =
    let a = c.args in
    calls-in a.s a.c a.out.now _ c.in_last_view.ensures c.if-in_last_view.false c.requires c.if-out-s.false _ _ _
    c.primary_id-to.ensures.0 c.get_state-w.ensures

pub slice_bounds-call_others-start : goal.slice_bounds-call_others-start
slice_bounds-call_others-start c = omega (
  arith,
  (let a = c.args in
      calls-in a.s a.c a.out.now _ c.in_last_view.ensures c.if-in_last_view.false c.requires c.if-out-s.false _ _ _
      c.primary_id-to.ensures.0 c.get_state-w.ensures),
)

pub call_others-k-requires : goal.call_others-k-requires
call_others-k-requires c =
    let a = c.args in
    calls-ask a.s a.c a.out.now _ c.in_last_view.ensures c.if-in_last_view.false c.requires c.if-out-s.false _ _ _
    c.primary_id-to.ensures.0 c.get_state-w.ensures

pub overflow_add-w : goal.overflow_add-w
overflow_add-w c =
    let a = c.args in
    omega (
      arith,
      both_small a.s a.c a.out.now _ c.in_last_view.ensures c.if-in_last_view.false c.requires c.if-out-s.false _ _ _
          c.primary_id-to.ensures.0 c.get_state-w.ensures _ _ c.call_others-k.ensures,
    )

pub returns : goal.returns
returns c =
    let a = c.args in
    asks-on a.s a.c a.out.now _ c.in_last_view.ensures c.if-in_last_view.false c.requires c.if-out-s.false _ _ _
    c.primary_id-to.ensures.0 c.get_state-w.ensures _ _ c.call_others-k.ensures _ _ _
    c.with_clock.ensures c.changing_to.ensures c.done.ensures
