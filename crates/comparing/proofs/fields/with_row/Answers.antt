-- `comparing::fields::with_row` meets its contract. Assumes nothing.
use Rattle.std.proofs.Common.{ℕ, replicate, ap, ◌∙◌, arith}
use Rattle.comparing.proofs.FieldLaws.{row-none, row-bare, row-full}
use Rattle.comparing.specs.Digests.{digest_after}
use Rattle.comparing.proofs.fields.with_row.Goals as goal

pub returns-in-0 : goal.returns-in-0
returns-in-0 c = row-none c.args.h c.args.row.now c.in-0.is

pub returns-in-1-to-6 : goal.returns-in-1-to-6
returns-in-1-to-6 c = c.with_bytes.ensures ∙ row-full c.args.h c.args.row.now (λ e. omega (arith, e, c.in-1-to-6)) (omega (arith, c.in-1-to-6))

pub returns-in_default : goal.returns-in_default
returns-in_default c = c.with_bytes-in_default-2.ensures ∙ ap (λ (x : ℕ). digest_after x (replicate 9 0)) c.with_bytes-in_default.ensures ∙ row-bare c.args.h c.args.row.now (λ e. omega (arith, e, c.in_default)) (omega (arith, c.in_default))
