-- `client_table::rows::follow_append` meets its contract.
-- The invariant: what the whole run of entries would leave is what the rest of it would leave of the rows that are there now. Assumes nothing.
use mathlib.Core.Path.{◌≡◌}
use Prim.Native.Nat.{◌-◌}
use lib.ListN.{drop}
use Rattle.entries.specs.Entries.{entries}
use Rattle.entries.specs.Places.{entry_place}
use Rattle.client_table.specs.Leaves.{Leaves}
use Rattle.client_table.specs.Rows.{appended}
use Rattle.client_table.proofs.rows.follow_append.Given as goal

abbrev pub invariant-loop-k : goal.invariant-loop-k
invariant-loop-k g l =
    let f = g.F.Form in
    let was = f.rows l.n l.initial.table in
    let now = f.rows l.n l.table in
    Leaves f.rows f.rest l.n l.initial.table l.table now
    × (appended f.shape was (entries (l.to - l.from) (drop (entry_place l.from) l.log))
    ≡ appended f.shape now (entries (l.to - l.k) (drop (entry_place l.k) l.log)))
