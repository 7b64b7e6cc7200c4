-- `client::left_pending` meets its contract. Assumes nothing.
use Rattle.client.specs.Client.{left_pending}
use Rattle.numbers.specs.Words.{when◌then◌else◌}
use Rattle.client.proofs.left_pending.Goals as goal

pub returns-then-answers : goal.returns-then-answers
unfolding left_pending when◌then◌else◌
returns-then-answers c = rw (← c.answers.ensures, c.if-answers.true)

pub returns-else-answers : goal.returns-else-answers
unfolding left_pending when◌then◌else◌
returns-else-answers c = rw (← c.answers.ensures, c.if-answers.false)
