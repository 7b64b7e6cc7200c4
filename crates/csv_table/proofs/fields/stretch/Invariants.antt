-- `csv_table::fields::stretch` meets its contract. The invariant: the whole stretch is the first i bytes and the stretch of what is left.
-- Assumes nothing.
use mathlib.Core.Path.{◌≡◌}
use Prim.Native.Nat.{◌+◌}
use lib.ListN.{drop}
use Rattle.csv_table.specs.Fields.{stretch}
use Rattle.csv_table.proofs.fields.stretch.Given as goal

abbrev pub invariant-loop-i : goal.invariant-loop-i
invariant-loop-i l = stretch l.s ≡ l.i + stretch (drop l.i l.s)
