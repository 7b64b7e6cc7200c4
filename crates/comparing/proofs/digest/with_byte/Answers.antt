-- `comparing::digest::with_byte` meets its contract. Assumes nothing.
use Rattle.comparing.specs.Digests.{hashed}
use Rattle.comparing.proofs.digest.with_byte.Goals as goal

pub returns : goal.returns
unfolding hashed
returns c = rw c.from.ensures
