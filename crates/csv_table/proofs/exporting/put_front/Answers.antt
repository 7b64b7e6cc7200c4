-- `csv::exporting::put_front` meets its contract: each number stands straight behind the one before. Assumes nothing.
use native.Mathlib.Omega.{arith}
use Rattle.csv_table.proofs.ExportRowLaws.{front-sizes, front-parts, wrote-lend}
use Rattle.csv_table.proofs.exporting.put_front.Goals as goal

pub put_number-a-requires : goal.put_number-a-requires
put_number-a-requires c = let a = c.args in omega (arith, front-sizes a.op a.e)

pub slice_bounds-put_number-count : goal.slice_bounds-put_number-count
slice_bounds-put_number-count c = let a = c.args in omega (arith, front-sizes a.op a.e)

pub slice_bounds-put_number-start : goal.slice_bounds-put_number-start
slice_bounds-put_number-start c = let a = c.args in omega (arith, front-sizes a.op a.e)

pub put_number-requires : goal.put_number-requires
put_number-requires c = let a = c.args in omega (arith, front-sizes a.op a.e)

pub overflow_add-b : goal.overflow_add-b
overflow_add-b c = let a = c.args in omega (arith, front-sizes a.op a.e)

pub slice_bounds-put_number-count-2 : goal.slice_bounds-put_number-count-2
slice_bounds-put_number-count-2 c = let a = c.args in omega (arith, front-sizes a.op a.e)

pub slice_bounds-put_number-start-2 : goal.slice_bounds-put_number-start-2
slice_bounds-put_number-start-2 c = let a = c.args in omega (arith, front-sizes a.op a.e)

pub put_number-requires-2 : goal.put_number-requires-2
put_number-requires-2 c = let a = c.args in omega (arith, front-sizes a.op a.e)

pub overflow_add-result : goal.overflow_add-result
overflow_add-result c = let a = c.args in omega (arith, front-sizes a.op a.e)

pub returns : goal.returns
returns c =
    let a = c.args in
    let s2 = wrote-lend _ _ _ _ _ c.put_number-a.ensures c.put_number.ensures in
    rw (← front-parts a.op a.e) (wrote-lend _ _ _ _ _ s2 c.put_number-2.ensures)
