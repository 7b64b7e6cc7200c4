-- `comparing::fields::with_nth` meets its contract. Assumes nothing.
use Rattle.std.proofs.Common.{ℕ, ◌+◌, ◌*◌, List, ap, ◌∙◌}
use Rattle.comparing.specs.Digests.{digest_after}
use Rattle.comparing.specs.Fields.{row_text}
use Rattle.comparing.proofs.AreaLaws.{part-length}
use Rattle.comparing.proofs.FieldLaws.{nth-none, nth-some}
use Rattle.comparing.proofs.fields.with_nth.Goals as goal

pub with_row-requires : goal.with_row-requires
with_row-requires c = part-length _ _ _ c.in-Some.ensures.0 c.in-Some.ensures.1

pub returns-in-Some : goal.returns-in-Some
returns-in-Some c = c.with_row.ensures ∙ ap (λ (row : List ℕ). digest_after c.args.h (row_text row)) c.in-Some.ensures.1 ∙ nth-some c.args.h c.args.mem.now (400 + 25 * c.args.i) c.in-Some.ensures.0

pub returns-in-None : goal.returns-in-None
returns-in-None c = nth-none c.args.h c.args.mem.now (400 + 25 * c.args.i) c.in-None.ensures
