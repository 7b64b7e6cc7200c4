-- `comparing::fields::reports` meets its contract. Assumes nothing.
use Rattle.std.proofs.Common.{ℕ, ap, ◌∙◌}
use Rattle.comparing.specs.Digests.{digest_of}
use Rattle.comparing.specs.Fields.{reports_text}
use Rattle.comparing.proofs.FieldLaws.{reports-none, reports-some}
use Rattle.comparing.proofs.fields.reports.Goals as goal

pub returns-then-s-gt4096 : goal.returns-then-s-gt4096
returns-then-s-gt4096 c = reports-none c.args.s c.args.mem.now c.if-s-gt4096.true

pub returns : goal.returns
returns c = let s = c.args.s in c.with_reports.ensures ∙ ap (λ (n : ℕ). digest_of (reports_text s.setup.room n s.reports.rows c.args.mem.now)) c.min.ensures ∙ reports-some s c.args.mem.now c.if-s-gt4096.false
