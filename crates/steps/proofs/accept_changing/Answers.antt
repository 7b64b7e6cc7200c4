-- `steps::accept_changing` meets its contract. Assumes nothing.
use Rattle.numbers.specs.Words.{when◌then◌else◌}
use Rattle.steps.specs.Steps.{accept_changing}
use Rattle.steps.proofs.accept_changing.Goals as goal

pub returns-then-s : goal.returns-then-s
unfolding accept_changing when◌then◌else◌
returns-then-s c = rw c.if-s.true

pub returns : goal.returns
unfolding accept_changing when◌then◌else◌
returns c = rw c.if-s.false
