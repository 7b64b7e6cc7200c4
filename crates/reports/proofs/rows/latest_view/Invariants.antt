-- `reports::rows::latest_view` meets its contract. Assumes nothing.
use mathlib.Core.Path.{◌≡◌}
use lib.ListN.{take, drop}
use Rattle.reports.specs.Rows.{latest_view_in}
use Rattle.reports.proofs.rows.latest_view.Given as goal

abbrev pub invariant-loop-i : goal.invariant-loop-i
invariant-loop-i l = l.v.0 ≡ latest_view_in (drop l.i (take l.n l.t.rows))
