-- `client_table_bytes::cell::row_at` meets its contract. Assumes nothing.
use Rattle.client_table_bytes.proofs.LayoutLaws.{row_of-at}
use Rattle.client_table_bytes.proofs.cell.row_at.Goals as goal

pub returns : goal.returns
returns c =
    let a = c.args in
    let read_u64 = c.read_u64 in
    row_of-at a.table.now a.p read_u64.ensures c.read_u64-2.ensures c.read_u8.ensures
    c.read_u64-3.ensures
