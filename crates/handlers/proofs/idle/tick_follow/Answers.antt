-- `handlers::idle::tick_follow` meets its contract. Assumes nothing.
use Rattle.handlers.proofs.HandleLaws.{up-follows, waits}
use mathlib.Core.Path.{ap}
use Rattle.steps.specs.Steps.{spoke}
use Rattle.state.specs.declared.Returned.{Returned}
use Rattle.handlers.proofs.idle.tick_follow.Goals as goal

pub returns-then-t : goal.returns-then-t
returns-then-t c = let a = c.args in up-follows a.s a.out.now a.t c.if-t.true c.next_view.ensures

pub returns : goal.returns
returns c = let a = c.args in waits a.s a.out.now a.t c.if-t.false (ap (λ (x : Returned). spoke x a.out.now) c.tick_backup.ensures)
