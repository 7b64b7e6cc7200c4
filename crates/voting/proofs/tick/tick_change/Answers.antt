-- `voting::tick::tick_change` meets its contract. Assumes nothing.
use Rattle.voting.proofs.TickLaws.{wait-over, wait-on}
use Rattle.book.specs.Memory.{memory}
use Rattle.voting.proofs.tick.tick_change.Goals as goal

pub returns-then-up : goal.returns-then-up
returns-then-up c =
    let a = c.args in
    let m = memory a.log.now a.results.now a.totals.now a.acks.now a.stored.now a.out.now a.reps.now in
    wait-over a.s a.c a.up m c.if-up.true _ _ c.next_view.ensures

pub returns : goal.returns
returns c =
    let a = c.args in
    let m = memory a.log.now a.results.now a.totals.now a.acks.now a.stored.now a.out.now a.reps.now in
    wait-on a.s a.c a.up m c.if-up.false _ c.repeat.ensures
