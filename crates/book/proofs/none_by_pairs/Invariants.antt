-- `book::none_by_pairs` meets its contract. Assumes nothing.
use mathlib.Core.Path.{◌≡◌}
use mathlib.Core.Bool.{true}
use Prim.Native.Nat.{◌+◌}
use Rattle.numbers.specs.Words.{◌and◌}
use Rattle.entries.specs.Entries.{entries}
use Rattle.entries.specs.Rising.{follows}
use Rattle.entries.proofs.RisingLaws.{from_at}
use Rattle.book.specs.Log.{none_breaks}
use Rattle.book.proofs.none_by_pairs.Given as goal

-- the whole answer is that of what is left
abbrev pub invariant-loop-j : goal.invariant-loop-j
invariant-loop-j l =
    (l.ok ≡ true)
    × (none_breaks (entries l.n l.log) (entries l.k l.part) ≡ (follows l.e (from_at l.k l.part l.j) and none_breaks (from_at l.n l.log (l.i + 1)) (entries l.k l.part)))

abbrev pub invariant-pairs : goal.invariant-pairs
invariant-pairs l = (l.ok ≡ true) × (none_breaks (entries l.n l.log) (entries l.k l.part) ≡ none_breaks (from_at l.n l.log l.i) (entries l.k l.part))
