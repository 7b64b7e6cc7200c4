-- `csv_table::reading::copy_entries` meets its contract. The invariant: the area holds the entries of the first j rows behind the header, and p is where the next row
-- begins. Assumes nothing.
use mathlib.Core.Path.{◌≡◌}
use Prim.Native.Nat.{◌≤◌}
use lib.ListN.{length, drop}
use Rattle.numbers.specs.Numbers.{over}
use Rattle.numbers.specs.Cells.{packed}
use Rattle.entries.specs.Entries.{encode_entry}
use Rattle.csv_table.specs.Reading.{table_entries}
use Rattle.csv_table.proofs.CopyLaws.{behind_rows}
use Rattle.csv_table.proofs.reading.copy_entries.Given as goal

abbrev pub invariant-loop-j : goal.invariant-loop-j
invariant-loop-j l =
    (l.p ≤ length l.file) × (length l.area ≡ length l.initial.area) × (drop l.p l.file ≡ behind_rows l.j l.file)
    × (l.area ≡ over (packed encode_entry (table_entries l.j l.file)) l.initial.area)
