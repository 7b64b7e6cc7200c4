-- `state_bytes::flag::flag_ok` meets its contract. Assumes nothing.
use Rattle.state_bytes.specs.Layout.{flag_ok}
use Rattle.state_bytes.proofs.flag.flag_ok.Goals as goal

pub returns : goal.returns
unfolding flag_ok
returns c = rw c.read_u8.ensures
