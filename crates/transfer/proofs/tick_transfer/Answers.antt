-- `transfer::tick_transfer` meets its contract. Assumes nothing.
use mathlib.Core.Path.{◌∙◌}
use Rattle.transfer.specs.Tick.{transfer_tick}
use Rattle.transfer.proofs.tick_transfer.Goals as goal

pub returns : goal.returns
unfolding transfer_tick
returns c = c.ask_state.ensures ∙ rw c.with_clock.ensures
