-- `state_bytes::read_state` meets its contract. Assumes nothing.
use mathlib.Core.Path.{ap, ◌∙◌}
use Rattle.state_bytes.specs.Layout.{state_with, state_of}
use Rattle.state_bytes.proofs.read_state.Goals as goal

pub returns : goal.returns
unfolding state_of
returns c = c.read_with.ensures ∙ ap (state_with c.args.run.now) c.reports_at.ensures
