-- `comparing::words::bytes` meets its contract. Assumes nothing.
use Rattle.std.proofs.Common.{ℕ, ◌/◌, List, length, ap, ◌∙◌}
use Rattle.numbers.specs.Numbers.{over}
use Rattle.comparing.specs.Text.{lesser_of, bytes_in}
use Rattle.comparing.proofs.words.bytes.Goals as goal

pub returns : goal.returns
returns c = let e = c.word.ensures in (c.decoded.ensures.0 ∙ ap (λ (w : List ℕ). lesser_of (length w / 2) (length c.args.area.now)) e, c.decoded.ensures.1 ∙ ap (λ (w : List ℕ). over (bytes_in c.decoded.result w) c.args.area.now) e)
