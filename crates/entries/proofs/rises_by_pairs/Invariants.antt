-- `entries::rises_by_pairs` meets its contract. Assumes nothing.
use mathlib.Core.Path.{◌≡◌}
use mathlib.Core.Bool.{true}
use Prim.Native.Nat.{◌+◌}
use Rattle.numbers.specs.Words.{◌and◌}
use Rattle.entries.specs.Entries.{entries}
use Rattle.entries.specs.Rising.{rising, follows}
use Rattle.entries.proofs.RisingLaws.{from_at}
use Rattle.entries.proofs.rises_by_pairs.Given as goal

-- the whole answer is that of what is left
abbrev pub invariant-loop-j : goal.invariant-loop-j
invariant-loop-j l = (l.ok ≡ true) × (rising (entries l.k l.s) ≡ (follows l.e (from_at l.k l.s l.j) and rising (from_at l.k l.s (l.i + 1))))

abbrev pub invariant-pairs : goal.invariant-pairs
invariant-pairs l = (l.ok ≡ true) × (rising (entries l.k l.s) ≡ rising (from_at l.k l.s l.i))
