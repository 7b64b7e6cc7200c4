-- `fees::by_rule` meets its contract. Assumes nothing.
use Rattle.fees.specs.Fees.{rule}
use Rattle.fees.proofs.by_rule.Goals as goal

pub returns-in-Ask : goal.returns-in-Ask
unfolding rule
returns-in-Ask c = rw c.in-Ask.is
