-- `reports::rows::choose` meets its contract. Assumes nothing.
use mathlib.Core.Path.{◌≡◌}
use lib.ListN.{take, drop}
use Rattle.reports.specs.Rows.{chosen_from}
use Rattle.reports.proofs.rows.choose.Given as goal

abbrev pub invariant-loop-i : goal.invariant-loop-i
invariant-loop-i l = l.b ≡ chosen_from l.i (drop l.i (take l.n l.t.rows))
