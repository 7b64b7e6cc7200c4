-- `client_table::rows::refill` meets its contract.
-- The invariant: what the whole run of entries would leave is what the rest of it would leave of the rows that are there now. Assumes nothing.
use mathlib.Core.Path.{◌≡◌}
use Prim.Native.Nat.{◌-◌}
use lib.ListN.{drop}
use Rattle.entries.specs.Entries.{entries}
use Rattle.entries.specs.Places.{entry_place, result_place}
use Rattle.fees.specs.Results.{outcomes}
use Rattle.client_table.specs.Leaves.{Leaves}
use Rattle.client_table.specs.Rows.{rebuilt}
use Rattle.client_table.proofs.rows.refill.Given as goal

abbrev pub invariant-loop-k : goal.invariant-loop-k
invariant-loop-k g l =
    let f = g.F.Form in
    let was = f.rows l.n l.initial.table in
    let now = f.rows l.n l.table in
    Leaves f.rows f.rest l.n l.initial.table l.table now
    × (rebuilt f.shape was (entries l.done l.log) (outcomes l.done l.results)
    ≡ rebuilt f.shape now (entries (l.done - l.k) (drop (entry_place l.k) l.log)) (outcomes (l.done - l.k) (drop (result_place l.k) l.results)))
