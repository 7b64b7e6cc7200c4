-- `reports::rows::choose` meets its contract. Assumes nothing.
use native.Mathlib.Omega.{arith}
use Rattle.reports.specs.Rows.{chosen_from}
use Rattle.reports.proofs.RowLaws.{rows_end, chosen-turn}
use Rattle.reports.proofs.rows.choose.Goals as goal

pub loop-i-init : goal.loop-i-init
unfolding chosen_from
loop-i-init c = rw (rows_end c.args.t.rows c.args.n)

pub loop-i-preserved : goal.loop-i-preserved
loop-i-preserved c =
    let a = c.args in
    let l = c.loop-i in
    let r = c.report_at in
    chosen-turn a.t.rows a.n l.i r.result (omega arith) (omega arith) (omega arith) r.ensures.1 r.ensures.0 l.b
    c.better-b.result l.invariant c.better-b.ensures
