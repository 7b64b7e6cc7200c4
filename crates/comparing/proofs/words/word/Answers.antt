-- `comparing::words::word` meets its contract. Assumes nothing.
use Rattle.std.proofs.Common.{ℕ, ◌-◌, length, take, drop, ap, ◌∙◌}
use Rattle.comparing.specs.Text.{first_word}
use Rattle.comparing.proofs.TextLaws.{word-part}
use Rattle.comparing.proofs.words.word.Goals as goal

pub returns : goal.returns
unfolding first_word
returns c = let s = c.args.line.now in let at = c.start.result in ap (λ (n : ℕ). take n (take (length s - at) (drop at s))) c.find.ensures.0 ∙ word-part c.args.line.now c.args.k c.start.result c.start.ensures.0
