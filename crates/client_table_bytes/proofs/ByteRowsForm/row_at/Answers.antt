-- `client_table_bytes::ByteRows` meets the contract of `row_at`. Assumes nothing.
use mathlib.Core.Path.{sym, ◌∙◌}
use Rattle.numbers.proofs.CellLaws.{cells-get}
use Rattle.client_table_bytes.specs.Layout.{no_row, row_of}
use Rattle.client_table_bytes.proofs.ByteRowsForm.row_at.Goals as goal

pub returns : goal.returns
returns c = let a = c.args in c.row_at.ensures ∙ sym (cells-get 25 row_of a._n a.table.now a.at no_row c.requires.1)
