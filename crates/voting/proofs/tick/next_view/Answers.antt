-- `voting::tick::next_view` meets its contract. Assumes nothing.
use Rattle.voting.proofs.TickLaws.{last_view, view-small, next-view}
use native.Mathlib.Omega.{arith}
use Rattle.voting.proofs.tick.next_view.Goals as goal

pub returns-then-in_last_view : goal.returns-then-in_last_view
returns-then-in_last_view c =
    let a = c.args in
    last_view a.s a.c a.out.now _ c.in_last_view.ensures c.if-in_last_view.true _ c.refused.ensures

pub overflow_add-v : goal.overflow_add-v
overflow_add-v c =
    let a = c.args in
    omega (arith, view-small a.s a.c a.out.now _ c.in_last_view.ensures c.if-in_last_view.false)

pub returns : goal.returns
returns c =
    let a = c.args in
    next-view a.s a.c a.out.now _ c.in_last_view.ensures c.if-in_last_view.false _ _ c.with_clock.ensures c.start_view_change.ensures
