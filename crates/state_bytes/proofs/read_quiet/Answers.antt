-- `state_bytes::read_quiet` meets its contract. Assumes nothing.
use mathlib.Core.Path.{sym, ap, ◌∙◌}
use Rattle.state_bytes.specs.Layout.{state_with, state_of}
use Rattle.state_bytes.proofs.QuietLaws.{quiet-reports}
use Rattle.state_bytes.proofs.read_quiet.Goals as goal

pub returns : goal.returns
unfolding state_of
returns c = c.read_with.ensures ∙ ap (state_with c.args.run.now) (c.no_reports.ensures ∙ sym (quiet-reports c.args.run.now c.requires.0 c.requires.1))
