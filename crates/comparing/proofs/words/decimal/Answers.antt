-- `comparing::words::decimal` meets its contract. Assumes nothing.
use Rattle.std.proofs.Common.{false, ap, ◌∙◌}
use Rattle.comparing.specs.Text.{number_after, number_at}
use Rattle.comparing.proofs.words.decimal.Goals as goal

pub returns : goal.returns
unfolding number_at
returns c = c.number.ensures ∙ ap (number_after false 0) c.word.ensures
