-- `csv_table::reading::scan` meets its contract. The invariant: the whole answer is that of what is left of the file behind i good rows, each of a byte or more.
-- Assumes nothing.
use mathlib.Core.Path.{◌≡◌}
use Prim.Native.Nat.{suc, ◌-◌, ◌≤◌}
use lib.ListN.{length, drop}
use Rattle.csv_table.specs.Reading.{scanned_after, scanned}
use Rattle.csv_table.proofs.reading.scan.Given as goal

abbrev pub invariant-loop-r : goal.invariant-loop-r
invariant-loop-r l = (l.i ≤ l.p) × (l.p ≤ length l.file) × (scanned l.file ≡ scanned_after (suc (length l.file) - l.i) l.i l.p (drop l.p l.file))

abbrev pub decreases-loop-r : goal.decreases-loop-r
decreases-loop-r l = length l.file - l.p
