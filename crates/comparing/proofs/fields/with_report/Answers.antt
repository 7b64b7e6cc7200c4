-- `comparing::fields::with_report` meets its contract. Assumes nothing.
use Rattle.std.proofs.Common.{ℕ, ◌+◌, ◌*◌, ap, ◌∙◌, arith}
use borrow.Author.Tests.{not-true, not-false}
use Rattle.state.proofs.LengthLaws.{stored-place-small}
use Rattle.comparing.specs.Digests.{digest_after, part_at}
use Rattle.comparing.proofs.FieldLaws.{report-none, report-some}
use Rattle.comparing.proofs.fields.with_report.Goals as goal

pub returns-then-not-d : goal.returns-then-not-d
returns-then-not-d c = report-none c.args.h c.args.room c.args.i c.args.d c.args.mem.now (not-true c.args.d.there c.if-not-d.true)

pub overflow_add-at : goal.overflow_add-at
overflow_add-at c = omega (arith, c.place-at.ensures, stored-place-small c.args.room c.args.i c.requires.1 (omega (arith, c.requires.0)))

pub returns : goal.returns
returns c = let a = c.args in report-some a.h a.room a.i a.d a.mem.now c.with_numbers-a.result c.with_part.result (not-false a.d.there c.if-not-d.false) c.with_numbers-a.ensures (c.with_part.ensures ∙ ap (λ (p : ℕ). digest_after c.with_numbers-a.result (part_at (600 + p) (32 * a.d.op.0) a.mem.now)) c.place-at.ensures)
