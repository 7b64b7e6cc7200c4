-- `voting::tick::in_last_view` meets its contract. Assumes nothing.
use mathlib.Core.Path.{refl}
use Rattle.voting.specs.Tick.{in_last_view}
use Rattle.voting.proofs.tick.in_last_view.Goals as goal

pub returns : goal.returns
unfolding in_last_view
returns c = refl
