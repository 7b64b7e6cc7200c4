-- `csv_table::reading::scan` meets its contract. The invariant: the whole answer is that of what is left of the file behind i good rows, each of a byte or more.
-- Assumes nothing.
use mathlib.Core.Path.{sym, ◌∙◌}
use native.Mathlib.Omega.{arith}
use Rattle.csv_table.proofs.ScanLaws.{scan-start, scan-fits, scan-place, scan-some, scan-bad, scan-last, scan-next}
use Rattle.csv_table.proofs.reading.scan.Goals as goal

pub loop-r-init : goal.loop-r-init
loop-r-init c = (omega arith, omega arith, scan-start c.args.file.now)

pub overflow_add-result-in-Err : goal.overflow_add-result-in-Err
overflow_add-result-in-Err c =
    let l = c.loop-r in
    omega (arith, scan-place l.i l.p c.args.file.now c.row.result c.row.ensures c.in-Err.bad c.in-Err.is l.invariant.1)

pub returns-in-Err : goal.returns-in-Err
returns-in-Err c =
    let l = c.loop-r in
    sym (l.invariant.2 ∙ scan-bad l.i l.p c.args.file.now c.row.result c.row.ensures l.invariant.0 l.invariant.1 c.in-Err.bad c.in-Err.is)

pub overflow_add-p : goal.overflow_add-p
overflow_add-p c =
    let l = c.loop-r in
    omega (arith, scan-fits l.i l.p c.args.file.now c.row.result c.row.ensures c.in-Ok.r c.in-Ok.is l.invariant.1)

pub returns-then-p-file : goal.returns-then-p-file
returns-then-p-file c =
    let l = c.loop-r in
    sym (l.invariant.2 ∙ scan-last l.i l.p c.args.file.now c.row.result c.row.ensures l.invariant.0 l.invariant.1 c.in-Ok.r c.in-Ok.is c.if-p-file.true)

pub loop-r-smaller : goal.loop-r-smaller
loop-r-smaller c =
    let l = c.loop-r in
    let f = c.args.file.now in
    omega (
      arith,
      scan-fits l.i l.p f c.row.result c.row.ensures c.in-Ok.r c.in-Ok.is l.invariant.1,
      scan-some l.i l.p f c.row.result c.row.ensures c.in-Ok.r c.in-Ok.is,
    )

pub loop-r-preserved : goal.loop-r-preserved
loop-r-preserved c =
    let l = c.loop-r in
    let f = c.args.file.now in (
      omega (arith, scan-some l.i l.p f c.row.result c.row.ensures c.in-Ok.r c.in-Ok.is),
      scan-fits l.i l.p f c.row.result c.row.ensures c.in-Ok.r c.in-Ok.is l.invariant.1,
      l.invariant.2 ∙ scan-next l.i l.p f c.row.result c.row.ensures l.invariant.0 l.invariant.1 c.in-Ok.r c.in-Ok.is c.if-p-file.false,
    )
