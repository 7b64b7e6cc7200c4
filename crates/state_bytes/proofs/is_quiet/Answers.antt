-- `state_bytes::is_quiet` meets its contract. Assumes nothing.
use Rattle.state_bytes.specs.Layout.{is_quiet}
use Rattle.state_bytes.proofs.is_quiet.Goals as goal

pub returns : goal.returns
unfolding is_quiet
returns c = c.is_zero.ensures
