-- `reports::judge::chosen_log` meets its contract. Assumes nothing.
use mathlib.Core.Path.{◌∙◌}
use Rattle.reports.specs.Judge.{chosen_log}
use Rattle.reports.proofs.judge.chosen_log.Goals as goal

pub returns : goal.returns
unfolding chosen_log
returns c = c.log_of.ensures ∙ rw c.place-at.ensures
