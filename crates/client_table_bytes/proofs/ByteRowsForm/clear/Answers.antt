-- `client_table_bytes::ByteRows` meets the contract of `clear`. Assumes nothing.
use Rattle.client_table_bytes.proofs.LayoutLaws.{left-cleared, leaves-left}
use Rattle.client_table_bytes.proofs.ByteRowsForm.clear.Goals as goal

pub returns : goal.returns
returns c = leaves-left c.requires (left-cleared c.args.n c.fill.ensures)
