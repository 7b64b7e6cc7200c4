-- `client_table::search::seek` meets its contract.
-- The invariant: the whole search's place is that of the span that is left, with some fuel that is enough for it. Assumes nothing.
use mathlib.Core.Path.{◌≡◌}
use Prim.Native.Nat.{ℕ, ◌-◌, ◌≤◌}
use Rattle.client_table.specs.Rows.{seek, seek_from}
use Rattle.client_table.proofs.search.seek.Given as goal

abbrev pub invariant-loop-s : goal.invariant-loop-s
invariant-loop-s g l =
    let h = g.F.Form.shape in
    let xs = g.F.Form.rows l.n l.table in
    (l.s.hi ≤ l.n) × ((f : ℕ) × (l.s.hi - l.s.lo ≤ f) × (seek h l.from l.goal xs ≡ seek_from h f l.s l.goal xs))

abbrev pub decreases-loop-s : goal.decreases-loop-s
decreases-loop-s g l = l.s.hi - l.s.lo
