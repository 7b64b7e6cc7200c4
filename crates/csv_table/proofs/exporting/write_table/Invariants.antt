-- `csv::exporting::write_table` meets its contract. The loop's invariant: the table of the first i entries stands over the front. Assumes nothing.
use mathlib.Core.Path.{◌≡◌}
use Prim.Native.Nat.{◌≤◌}
use lib.ListN.{length}
use Rattle.numbers.specs.Numbers.{Wrote}
use Rattle.csv_table.proofs.ExportLaws.{table_of}
use Rattle.csv_table.proofs.exporting.write_table.Given as goal

abbrev pub invariant-loop-i : goal.invariant-loop-i
invariant-loop-i l = (length l.area ≡ length l.initial.area) × Wrote (table_of l.i l.run) l.initial.area l.area l.at
