-- `state_bytes::flag::flag_at` meets its contract. Assumes nothing.
use Rattle.state_bytes.specs.Layout.{flag_of}
use Rattle.state_bytes.proofs.flag.flag_at.Goals as goal

pub returns : goal.returns
unfolding flag_of
returns c = rw c.read_u8.ensures
