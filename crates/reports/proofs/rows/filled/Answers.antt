-- `reports::rows::filled` meets its contract. Assumes nothing.
use Rattle.reports.proofs.RowLaws.{filled-le}
use native.Mathlib.Omega.{arith}
use lib.ListN.{take, drop, length-take, length-drop}
use Rattle.reports.specs.Rows.{filled_in}
use Rattle.reports.proofs.RowLaws.{rows_end, filled-turn}
use Rattle.reports.proofs.rows.filled.Goals as goal

pub loop-i-init : goal.loop-i-init
unfolding filled_in
loop-i-init c = rw (rows_end c.args.t.rows c.args.n)

pub count_one-k-requires : goal.count_one-k-requires
count_one-k-requires c =
    let a = c.args in
    let l = c.loop-i in
    omega (
      arith,
      filled-le (drop l.i (take a.n a.t.rows)),
      length-drop l.i (take a.n a.t.rows),
      length-take a.n a.t.rows,
      l.invariant,
      c.report_at.ensures.1,
    )

pub loop-i-preserved : goal.loop-i-preserved
loop-i-preserved c =
    let a = c.args in
    let l = c.loop-i in
    let r = c.report_at in
    filled-turn a.t.rows a.n l.i r.result (omega arith) (omega arith) (omega arith) r.ensures.1 r.ensures.0 l.k
    c.count_one-k.result l.invariant c.count_one-k.ensures
