-- `reports::rows::greatest_commit` meets its contract. Assumes nothing.
use mathlib.Core.Path.{◌≡◌}
use lib.ListN.{take, drop}
use Rattle.reports.specs.Rows.{greatest_in}
use Rattle.reports.proofs.rows.greatest_commit.Given as goal

abbrev pub invariant-loop-i : goal.invariant-loop-i
invariant-loop-i l = l.g.0 ≡ greatest_in (drop l.i (take l.n l.t.rows))
