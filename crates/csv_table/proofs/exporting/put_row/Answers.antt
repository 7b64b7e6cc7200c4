-- `csv::exporting::put_row` meets its contract: the second half stands straight behind the first. Assumes nothing.
use native.Mathlib.Omega.{arith}
use Rattle.csv_table.proofs.ExportRowLaws.{row-long, row-parts, wrote-lend}
use Rattle.csv_table.proofs.exporting.put_row.Goals as goal

pub put_front-a-requires : goal.put_front-a-requires
put_front-a-requires c = let a = c.args in omega (arith, row-long a.op a.e)

pub slice_bounds-put_back-count : goal.slice_bounds-put_back-count
slice_bounds-put_back-count c = let a = c.args in omega (arith, row-long a.op a.e)

pub slice_bounds-put_back-start : goal.slice_bounds-put_back-start
slice_bounds-put_back-start c = let a = c.args in omega (arith, row-long a.op a.e)

pub put_back-requires : goal.put_back-requires
put_back-requires c = let a = c.args in omega (arith, row-long a.op a.e)

pub overflow_add-result : goal.overflow_add-result
overflow_add-result c = let a = c.args in omega (arith, row-long a.op a.e)

pub returns : goal.returns
returns c =
    let a = c.args in
    rw (← row-parts a.op a.e) (wrote-lend _ _ _ _ _ c.put_front-a.ensures c.put_back.ensures)
