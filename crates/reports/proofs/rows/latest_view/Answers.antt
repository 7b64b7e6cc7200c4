-- `reports::rows::latest_view` meets its contract. Assumes nothing.
use native.Mathlib.Omega.{arith}
use Rattle.reports.specs.Rows.{latest_view_in}
use Rattle.reports.proofs.RowLaws.{rows_end, latest-turn}
use Rattle.reports.proofs.rows.latest_view.Goals as goal

pub loop-i-init : goal.loop-i-init
unfolding latest_view_in
loop-i-init c = rw (rows_end c.args.t.rows c.args.n)

pub loop-i-preserved : goal.loop-i-preserved
loop-i-preserved c =
    let a = c.args in
    let l = c.loop-i in
    let r = c.report_at in
    latest-turn a.t.rows a.n l.i r.result (omega arith) (omega arith) (omega arith) r.ensures.1 r.ensures.0 l.v.0
    c.later_view-v.result.0 l.invariant c.later_view-v.ensures
