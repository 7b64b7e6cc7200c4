-- `client_table_bytes::cell::write_row` meets its contract. Assumes nothing.
use mathlib.Core.Path.{refl}
use Rattle.numbers.specs.Numbers.{big}
use Rattle.numbers.proofs.RunLaws.{over-lend}
use Rattle.client_table_bytes.specs.Layout.{encode_row}
use Rattle.client_table_bytes.proofs.cell.write_row.Goals as goal

pub returns : goal.returns
unfolding big encode_row
returns c =
    let s2 = over-lend _ _ _ 8 refl c.write_u64.ensures c.write_u64-2.ensures in
    let s3 = over-lend _ _ _ 16 refl s2 c.write_u8.ensures in
    over-lend _ _ _ 17 refl s3 c.write_u64-3.ensures
