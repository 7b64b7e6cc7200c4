-- `frames::row::response` meets its contract. Assumes nothing.
use Rattle.frames.specs.Messages.{state_row}
use Rattle.frames.proofs.row.response.Goals as goal

pub returns-in-None : goal.returns-in-None
unfolding state_row
returns-in-None c = rw c.in-None.is c.row.ensures

pub returns-in-Some : goal.returns-in-Some
unfolding state_row
returns-in-Some c = rw c.in-Some.is
