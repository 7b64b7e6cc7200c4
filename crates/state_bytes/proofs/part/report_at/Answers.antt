-- `state_bytes::part::report_at` meets its contract. Assumes nothing.
use Rattle.state_bytes.proofs.ReadLaws.{report_of-at}
use Rattle.state_bytes.proofs.part.report_at.Goals as goal

pub returns : goal.returns
returns c = report_of-at _ _ c.flag_at.ensures c.flag_at-2.ensures c.read_view.ensures c.read_op.ensures c.read_op-2.ensures
