-- `csv::exporting::fits` meets its contract. The loop's invariant: the room is the table of the first i entries and what is left of it. Assumes nothing.
use mathlib.Core.Path.{◌≡◌}
use Prim.Native.Nat.{◌+◌, ◌≤◌}
use lib.ListN.{length}
use Rattle.csv_table.proofs.ExportLaws.{table_of}
use Rattle.csv_table.proofs.exporting.fits.Given as goal

abbrev pub invariant-loop-i : goal.invariant-loop-i
invariant-loop-i l = (l.room ≡ length (table_of l.i l.run) + l.left)
