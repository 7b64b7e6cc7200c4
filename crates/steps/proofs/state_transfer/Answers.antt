-- `steps::state_transfer` meets its contract. Assumes nothing.
use mathlib.Core.Path.{◌∙◌}
use Rattle.steps.specs.Steps.{transferred}
use Rattle.steps.proofs.state_transfer.Goals as goal

pub returns : goal.returns
unfolding transferred
returns c = c.ask_state.ensures ∙ rw (c.with_status.ensures, c.heard.ensures)
