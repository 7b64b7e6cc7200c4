-- `comparing::fields::with_reports` meets its contract. Assumes nothing.
use Rattle.std.proofs.Common.{refl}
use Rattle.comparing.specs.Fields.{reports_text}
use Rattle.comparing.proofs.FieldLaws.{reports-next}
use Rattle.comparing.proofs.fields.with_reports.Goals as goal

pub loop-i-init : goal.loop-i-init
unfolding reports_text
loop-i-init c = refl

pub loop-i-preserved : goal.loop-i-preserved
loop-i-preserved c = let a = c.args in reports-next a.room a.t.rows a.mem.now c.loop-i.i c.loop-i.h c.with_report-h.result c.report_at.result c.report_at.ensures.0 c.loop-i.invariant c.with_report-h.ensures
