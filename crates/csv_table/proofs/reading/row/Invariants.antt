-- `csv_table::reading::row` meets its contract. The invariant: the row is what is left of it behind the first k fields, and their values are small enough to be cast.
-- Assumes nothing.
use mathlib.Core.Path.{◌≡◌}
use Prim.Native.Nat.{◌-◌, ◌≤◌}
use lib.ListN.{length, drop}
use Rattle.csv_table.specs.Reading.{row_from, row_in}
use Rattle.csv_table.proofs.ReadingLaws.{Values}
use Rattle.csv_table.proofs.reading.row.Given as goal

abbrev pub invariant-loop-k : goal.invariant-loop-k
invariant-loop-k l =
    (l.p ≤ length l.s) × Values l.values × (row_in l.i l.s ≡ row_from (6 - l.k) l.k l.i l.values l.p (drop l.p l.s))
