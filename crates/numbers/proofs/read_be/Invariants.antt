-- `numbers::read_be` meets its contract. The invariant: the number of the bytes passed, and its bound.
-- Assumes nothing.
use mathlib.Core.Path.{◌≡◌}
use Prim.Native.Nat.{◌^◌, ◌<◌}
use lib.ListN.{take}
use Rattle.numbers.specs.Numbers.{be}
use Rattle.numbers.proofs.read_be.Given as goal

abbrev pub invariant-loop-b : goal.invariant-loop-b
invariant-loop-b l = (l.x ≡ be (take l.b-index l.b-items)) × (l.x < 256 ^ l.b-index)
