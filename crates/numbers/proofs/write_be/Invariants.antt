-- `numbers::write_be` meets its contract. The invariant: the bytes from i on are those of x, and the others are as they were.
-- Assumes nothing.
use mathlib.Core.Path.{◌≡◌}
use mathlib.Core.List.{◌++◌}
use Prim.Native.Nat.{◌-◌, ◌/◌, ◌^◌}
use lib.ListN.{take, drop}
use Rattle.numbers.specs.Numbers.{big}
use Rattle.numbers.proofs.write_be.Given as goal

abbrev pub invariant-loop-i : goal.invariant-loop-i
invariant-loop-i l =
    (l.area ≡ take l.i l.initial.area ++ (big (l.k - l.i) l.x ++ drop l.k l.initial.area)) × (l.y ≡ l.x / 256 ^ (l.k - l.i))
