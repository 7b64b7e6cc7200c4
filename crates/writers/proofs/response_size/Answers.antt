-- `writers::response_size` meets its contract. Assumes nothing.
use Rattle.writers.specs.Writers.{state_size}
use Rattle.writers.proofs.response_size.Goals as goal

pub returns-in-None : goal.returns-in-None
unfolding state_size
returns-in-None c = rw c.in-None.is c.sized.ensures

pub returns-in-Some : goal.returns-in-Some
unfolding state_size
returns-in-Some c = rw c.in-Some.is c.sized-in-Some.ensures
