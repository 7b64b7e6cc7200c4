-- `reports::rows::greatest_commit` meets its contract. Assumes nothing.
use native.Mathlib.Omega.{arith}
use Rattle.reports.specs.Rows.{greatest_in}
use Rattle.reports.proofs.RowLaws.{rows_end, greatest-turn}
use Rattle.reports.proofs.rows.greatest_commit.Goals as goal

pub loop-i-init : goal.loop-i-init
unfolding greatest_in
loop-i-init c = rw (rows_end c.args.t.rows c.args.n)

pub loop-i-preserved : goal.loop-i-preserved
loop-i-preserved c =
    let a = c.args in
    let l = c.loop-i in
    let r = c.report_at in
    greatest-turn a.t.rows a.n l.i r.result (omega arith) (omega arith) (omega arith) r.ensures.1 r.ensures.0
    l.g.0 c.greater_commit-g.result.0 l.invariant c.greater_commit-g.ensures
