-- `comparing::digest::with_part` meets its contract. Assumes nothing.
use Rattle.std.proofs.Common.{ℕ, List, ap, ◌∙◌}
use Rattle.comparing.specs.Digests.{digest_after}
use Rattle.comparing.proofs.DigestLaws.{part_none, part-some}
use Rattle.comparing.proofs.digest.with_part.Goals as goal

pub returns-in-Some : goal.returns-in-Some
returns-in-Some c = let a = c.args in c.with_bytes.ensures ∙ ap (λ (w : List ℕ). digest_after a.h w) (c.in-Some.ensures.1) ∙ part-some a.h a.s.now a.at a.n c.in-Some.ensures.0

pub returns-in-None : goal.returns-in-None
returns-in-None c = part_none c.args.h c.args.s.now c.args.at c.args.n c.in-None.ensures
