-- `frames::offset::entries` meets its contract. The invariant: the whole answer is that of the entries that are left. Assumes nothing.
use mathlib.Core.Path.{◌≡◌}
use Prim.Native.Nat.{◌+◌, ◌-◌, ◌*◌, ◌≤◌}
use lib.ListN.{length, drop}
use Rattle.offsets.specs.Rules.{reach}
use Rattle.frames.specs.FrameRules.{entries_rule}
use Rattle.frames.proofs.offset.entries.Given as goal

abbrev pub invariant-loop-i : goal.invariant-loop-i
invariant-loop-i l =
    let p = l.at + 32 * l.i in
    (p ≤ length l.s) × (l.at + reach (entries_rule l.count) (drop l.at l.s) ≡ p + reach (entries_rule (l.count - l.i)) (drop p l.s))
