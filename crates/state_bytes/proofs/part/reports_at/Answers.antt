-- `state_bytes::part::reports_at` meets its contract. Assumes nothing.
use Rattle.state_bytes.proofs.ReadLaws.{reports_of-at}
use Rattle.state_bytes.proofs.part.reports_at.Goals as goal

pub returns : goal.returns
returns c = let a = c.args in reports_of-at a.run.now a.at c.report_at.ensures c.report_at-2.ensures c.report_at-3.ensures c.report_at-4.ensures c.report_at-5.ensures c.report_at-6.ensures c.report_at-7.ensures
