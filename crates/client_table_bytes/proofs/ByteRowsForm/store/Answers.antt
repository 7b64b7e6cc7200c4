-- `client_table_bytes::ByteRows` meets the contract of `store`. Assumes nothing.
use mathlib.Core.Path.{◌∙◌}
use Prim.Native.Nat.{◌*◌}
use native.Mathlib.Omega.{arith}
use borrow.Author.Rules.{rules}
use Rattle.numbers.proofs.RunLaws.{put-part}
use Rattle.client_table_bytes.specs.Layout.{encode_row}
use Rattle.client_table_bytes.proofs.LayoutLaws.{leaves-left, left-stored, shift-write}
use Rattle.client_table_bytes.proofs.ByteRowsForm.store.Goals as goal

pub returns : goal.returns
returns c =
    let pre = c.requires in
    let a = c.args in
    leaves-left pre.0 (left-stored a._n a.at a.to a.row a.table.now pre.1.0 pre.1.1 pre.0
    (put-part _ (encode_row a.row) (25 * a.at) c.write_row.ensures
    ∙ shift-write a.at a.to a.row a.table.now pre.1.0 (omega arith) c.shift.ensures)
    (λ i. omega (arith, c.slice_known-1.given i)) (search rules))
