-- `reports::rows::filled` meets its contract. Assumes nothing.
use mathlib.Core.Path.{◌≡◌}
use lib.ListN.{take, drop}
use Rattle.reports.specs.Rows.{filled_in}
use Rattle.reports.proofs.rows.filled.Given as goal

abbrev pub invariant-loop-i : goal.invariant-loop-i
invariant-loop-i l = l.k ≡ filled_in (drop l.i (take l.n l.t.rows))
