-- `offsets::number` meets its contract. The invariant: the number of the bytes passed, its bound, and that the whole answer is that of what is left behind them.
-- Assumes nothing.
use mathlib.Core.Path.{◌≡◌}
use mathlib.Core.List.{List}
use Prim.Native.Nat.{ℕ, ◌+◌, ◌-◌, ◌^◌, ◌≤◌, ◌<◌}
use lib.ListN.{length, drop}
use Rattle.offsets.specs.Rules.{number_reach}
use Rattle.offsets.proofs.number.Given as goal

abbrev pub Whole : (s : List ℕ) (at n low high x i : ℕ) → Type 0
Whole s at n low high x i = number_reach n 0 low high (drop at s) ≡ i + number_reach (n - i) x low high (drop (at + i) s)

abbrev pub invariant-loop-i : goal.invariant-loop-i
invariant-loop-i l = (l.at + l.i ≤ length l.s) × (l.x < 256 ^ l.i) × Whole l.s l.at l.n l.low l.high l.x l.i
