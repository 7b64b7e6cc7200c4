-- `steps::takes` meets its contract. Assumes nothing.
use Rattle.steps.specs.Steps.{is_take}
use Rattle.steps.proofs.takes.Goals as goal

pub returns-in-Ignore : goal.returns-in-Ignore
unfolding is_take
returns-in-Ignore c = rw c.in-Ignore.is

pub returns-in-Hear : goal.returns-in-Hear
unfolding is_take
returns-in-Hear c = rw c.in-Hear.is

pub returns-in-Join : goal.returns-in-Join
unfolding is_take
returns-in-Join c = rw c.in-Join.is

pub returns-in-Rejoin : goal.returns-in-Rejoin
unfolding is_take
returns-in-Rejoin c = rw c.in-Rejoin.is

pub returns-in-Take : goal.returns-in-Take
unfolding is_take
returns-in-Take c = rw c.in-Take.is
