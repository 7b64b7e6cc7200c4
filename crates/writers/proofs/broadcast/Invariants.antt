-- `writers::broadcast` meets its contract. The invariant: the frames to the others below `to` stand over the front of the area. Assumes nothing.
use mathlib.Core.Path.{◌≡◌}
use mathlib.Core.List.{List}
use Prim.Native.Nat.{ℕ, ◌*◌}
use lib.ListN.{length, take}
use Rattle.numbers.specs.Numbers.{over}
use Rattle.frames.specs.declared.Message.{Message}
use Rattle.writers.specs.Writers.{size_of, to_others}
use Rattle.writers.proofs.broadcast.Given as goal

-- the carried entries' bytes
abbrev pub carried : Message → List ℕ → List ℕ
carried m log = take (32 * (size_of m).entries) log

abbrev pub invariant-loop-to : goal.invariant-loop-to
invariant-loop-to l =
    (length l.area ≡ length l.initial.area) × (l.area ≡ over (to_others l.to l.me l.m (carried l.m l.log)) l.initial.area) × (l.at ≡ length (to_others l.to l.me l.m (carried l.m l.log)))
