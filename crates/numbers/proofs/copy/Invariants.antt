-- `numbers::copy` meets its contract. The invariant: the first i bytes are those of src, and the others are as they were.
-- Assumes nothing.
use mathlib.Core.Path.{◌≡◌}
use lib.ListN.{take}
use Rattle.numbers.specs.Numbers.{over}
use Rattle.numbers.proofs.copy.Given as goal

abbrev pub invariant-loop-i : goal.invariant-loop-i
invariant-loop-i l = l.area ≡ over (take l.i l.src) l.initial.area
