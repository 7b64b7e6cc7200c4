-- `client_table::rows::refill` meets its contract. Assumes nothing.
use mathlib.Core.Path.{sym, ◌∙◌}
use Prim.Native.Nat.{◌-◌}
use lib.ListN.{drop}
use Rattle.numbers.proofs.CellLaws.{cells-next, cells-none}
use Rattle.entries.specs.Entries.{entry_of, entries}
use Rattle.entries.specs.Places.{entry_place, result_place}
use Rattle.fees.specs.Results.{result_of, outcomes}
use Rattle.client_table.proofs.LeavesLaws.{leaves-then, leaves_is, leaves-now}
use Rattle.client_table.proofs.Turns.{rebuild-turn, rebuild-none}
use Rattle.client_table.proofs.rows.refill.Goals as goal

pub loop-k-preserved : goal.loop-k-preserved
loop-k-preserved g c =
    let a = c.args in
    let f = g.F.Form in
    let l = c.loop-k in (
      leaves-now f.rows f.rest a.n (leaves-then f.rows f.rest a.n l.invariant.0 c.put.ensures),
      l.invariant.1 ∙ rebuild-turn f.shape (f.rows a.n l.table) _ c.entry_in-e.result c.result_in-o.result c.answered.result
          (entries (a.done - l.k) (drop (entry_place l.k) a.log.now)) _ (outcomes (a.done - l.k) (drop (result_place l.k) a.results.now)) _
          (cells-next 32 entry_of a.done a.log.now l.k c.entry_in-e.result c.loop-k-test.true c.entry_in-e.ensures)
          (cells-next 9 result_of a.done a.results.now l.k c.result_in-o.result c.loop-k-test.true c.result_in-o.ensures) c.answered.ensures
          c.put.ensures.rows,
    )

pub returns : goal.returns
returns g c =
    let a = c.args in
    let f = g.F.Form in
    let l = c.loop-k in
    let rest = entries (a.done - l.k) (drop (entry_place l.k) a.log.now) in
    let gave = outcomes (a.done - l.k) (drop (result_place l.k) a.results.now) in
    leaves_is f.rows f.rest a.n l.invariant.0 (sym (l.invariant.1 ∙ rebuild-none f.shape (f.rows a.n l.table) rest gave
    (cells-none 32 entry_of a.done (drop (entry_place l.k) a.log.now) l.k c.loop-k-test.false)))
