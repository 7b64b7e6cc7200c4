-- `csv::exporting::row_size` meets its contract: the widths of the fields, their commas and CRLF make the row's length. Assumes nothing.
use native.Mathlib.Omega.{arith}
use Rattle.csv_table.proofs.ExportRowLaws.{front_long, back_long, row-long}
use Rattle.csv_table.proofs.exporting.row_size.Goals as goal

pub returns : goal.returns
returns c =
    let a = c.args in
    let f = front_long a.op a.e in
    let b = back_long a.e in
    let r = row-long a.op a.e in
    (omega arith, omega arith)
