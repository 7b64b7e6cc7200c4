-- `do_view_change::begin::send_start_views` meets its contract. Assumes nothing.
use native.Mathlib.Omega.{arith}
use Rattle.do_view_change.proofs.BeginLaws.{views-in, views-ask, sent-small, views-go}
use Rattle.do_view_change.proofs.begin.send_start_views.Goals as goal

pub slice_bounds-broadcast-count : goal.slice_bounds-broadcast-count
slice_bounds-broadcast-count c =
    let a = c.args in
    views-in a.t a.u a.first a.log.now a.out.now c.requires.0 c.requires.1.0 c.requires.1.1 _ _ c.call_first-w.ensures

pub slice_bounds-broadcast-start : goal.slice_bounds-broadcast-start
slice_bounds-broadcast-start c = omega (
  arith,
  (let a = c.args in
      views-in a.t a.u a.first a.log.now a.out.now c.requires.0 c.requires.1.0 c.requires.1.1 _ _ c.call_first-w.ensures),
)

pub broadcast-requires : goal.broadcast-requires
broadcast-requires c =
    let a = c.args in
    views-ask a.t a.u a.first a.log.now a.out.now c.requires.0 c.requires.1.0 c.requires.1.1 _ _ c.call_first-w.ensures

pub overflow_add-result : goal.overflow_add-result
overflow_add-result c =
    let a = c.args in
    let x = c.call_first-w.ensures in
    let y = c.broadcast.ensures in
    omega (arith, sent-small a.t a.u a.first a.log.now a.out.now c.requires.0 c.requires.1.0 c.requires.1.1 _ _ x _ _ y)

pub returns : goal.returns
returns c =
    let a = c.args in
    views-go a.t a.u a.first a.log.now a.out.now c.requires.0 c.requires.1.0 c.requires.1.1 _ _
    c.call_first-w.ensures _ _ c.broadcast.ensures
