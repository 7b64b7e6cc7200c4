-- `state::is_primary` meets its contract. Assumes nothing.
use Rattle.state.specs.State.{leads}
use Rattle.state.proofs.is_primary.Goals as goal

pub returns : goal.returns
unfolding leads
returns c = rw c.primary_id.ensures.0
