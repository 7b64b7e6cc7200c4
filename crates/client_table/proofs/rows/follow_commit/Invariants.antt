-- `client_table::rows::follow_commit` meets its contract.
-- The invariant: what the whole run of entries would leave is what the rest of it would leave of the rows that are there now. Assumes nothing.
use mathlib.Core.Path.{◌≡◌}
use Prim.Native.Nat.{◌-◌}
use lib.ListN.{drop}
use Rattle.entries.specs.Entries.{entries}
use Rattle.entries.specs.Places.{entry_place, result_place}
use Rattle.fees.specs.Results.{outcomes}
use Rattle.client_table.specs.Leaves.{Leaves}
use Rattle.client_table.specs.Rows.{rows_committed}
use Rattle.client_table.proofs.rows.follow_commit.Given as goal

abbrev pub invariant-loop-k : goal.invariant-loop-k
invariant-loop-k g l =
    let f = g.F.Form in
    let was = f.rows l.n l.initial.table in
    let now = f.rows l.n l.table in
    Leaves f.rows f.rest l.n l.initial.table l.table now
    × (rows_committed f.shape was (entries (l.to - l.from) (drop (entry_place l.from) l.log))
    (outcomes (l.to - l.from) (drop (result_place l.from) l.results))
    ≡ rows_committed f.shape now (entries (l.to - l.k) (drop (entry_place l.k) l.log)) (outcomes (l.to - l.k) (drop (result_place l.k) l.results)))
