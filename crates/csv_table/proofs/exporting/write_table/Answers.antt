-- `csv::exporting::write_table` meets its contract. The loop's invariant: the table of the first i entries stands over the front. Assumes nothing.
use mathlib.Core.Path.{◌≡◌, refl, ap}
use Prim.Native.Nat.{◌+◌}
use native.Mathlib.Omega.{arith}
use borrow.Author.Rules.{rules}
use lib.ListN.{length, length-take, length-drop}
use Rattle.entries.specs.Entries.{run_count}
use Rattle.csv_table.proofs.ExportRowLaws.{wrote-lend}
use Rattle.csv_table.proofs.ExportLaws.{table_none, table_more, table-longer, table-grows, header-again, header-under}
use Rattle.csv_table.proofs.exporting.write_table.Goals as goal

pub copy-requires : goal.copy-requires
copy-requires c =
    let a = c.args in
    let t = ap length (table_none a.run.now) in
    let g = table-grows 0 (run_count a.run.now) a.run.now (omega arith) in
    (omega arith, omega arith)

pub loop-i-init : goal.loop-i-init
loop-i-init c =
    let a = c.args in
    (refl, header-again a.run.now a.area.now c.copy.ensures)

pub slice_bounds-put_row-count : goal.slice_bounds-put_row-count
slice_bounds-put_row-count c =
    let a = c.args in
    let l = c.loop-i in
    let g = table-grows l.i (run_count a.run.now) a.run.now (omega arith) in
    omega arith

pub slice_bounds-put_row-start : goal.slice_bounds-put_row-start
slice_bounds-put_row-start c =
    let a = c.args in
    let l = c.loop-i in
    let g = table-grows l.i (run_count a.run.now) a.run.now (omega arith) in
    omega arith

pub put_row-at-requires : goal.put_row-at-requires
put_row-at-requires c =
    let a = c.args in
    let l = c.loop-i in
    let g = table-grows (l.i + 1) (run_count a.run.now) a.run.now (omega arith) in
    let e = c.entry_at in
    let m = table-longer l.i a.run.now e.result e.ensures in
    simp (length-take, length-drop) (omega arith)

pub overflow_add-at : goal.overflow_add-at
overflow_add-at c =
    let a = c.args in
    let l = c.loop-i in
    let g = table-grows (l.i + 1) (run_count a.run.now) a.run.now (omega arith) in
    let e = c.entry_at in
    let m = table-longer l.i a.run.now e.result e.ensures in
    omega arith

pub loop-i-preserved : goal.loop-i-preserved
loop-i-preserved c =
    let a = c.args in
    let l = c.loop-i in
    let e = c.entry_at in
    let w = wrote-lend _ _ _ _ _ l.invariant.1 c.put_row-at.ensures in
    (search rules, rw (table_more l.i a.run.now e.result e.ensures) at w)

pub returns : goal.returns
returns c =
    let a = c.args in
    let l = c.loop-i in
    let e : l.i ≡ run_count a.run.now = omega arith in
    let w = header-under a.run.now a.area.now c.copy.ensures l.i l.invariant.1 in
    rw e at w
