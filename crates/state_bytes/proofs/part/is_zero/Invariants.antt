-- `state_bytes::part::is_zero` meets its contract: what is left is all zero exactly where all of it is. Assumes nothing.
use mathlib.Core.Path.{◌≡◌}
use Prim.Native.Nat.{◌+◌, ◌-◌, ◌*◌}
use lib.ListN.{take, drop}
use Rattle.state_bytes.specs.Layout.{all_zero}
use Rattle.state_bytes.proofs.part.is_zero.Given as goal

abbrev pub invariant-loop-i : goal.invariant-loop-i
invariant-loop-i l = all_zero (take 98 (drop l.at l.run)) ≡ all_zero (take (98 - 8 * l.i) (drop (l.at + 8 * l.i) l.run))
