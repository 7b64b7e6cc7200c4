-- `client_table::is_new` meets its contract. Assumes nothing.
use Rattle.client_table.specs.Latest.{is_new}
use Rattle.client_table.proofs.is_new.Goals as goal

pub returns-in-Nothing : goal.returns-in-Nothing
unfolding is_new
returns-in-Nothing c = rw c.in-Nothing.is

pub returns-in-Waiting : goal.returns-in-Waiting
unfolding is_new
returns-in-Waiting c = rw c.in-Waiting.is

pub returns-in-Answered : goal.returns-in-Answered
unfolding is_new
returns-in-Answered c = rw c.in-Answered.is
