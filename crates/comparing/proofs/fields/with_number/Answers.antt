-- `comparing::fields::with_number` meets its contract. Assumes nothing.
use Rattle.std.proofs.Common.{ℕ, List, ap, ◌∙◌}
use Rattle.numbers.specs.Numbers.{big}
use Rattle.numbers.proofs.RunLaws.{over-all}
use Rattle.numbers.proofs.NumberLaws.{length-big}
use Rattle.comparing.specs.Digests.{digest_after}
use Rattle.comparing.proofs.fields.with_number.Goals as goal

pub returns : goal.returns
returns c = c.with_bytes.ensures ∙ ap (λ (w : List ℕ). digest_after c.args.h w) (c.write_u32.ensures ∙ over-all (big 4 c.args.x) _ (length-big 4 c.args.x))
