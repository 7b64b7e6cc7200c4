-- `book::none_by_chain` meets its contract. Assumes nothing.
use mathlib.Core.Path.{◌≡◌}
use mathlib.Core.Bool.{true}
use Rattle.entries.specs.Entries.{entries}
use Rattle.entries.proofs.RisingLaws.{from_at}
use Rattle.entries.proofs.ChainLaws.{held, Linked, Sought}
use Rattle.book.specs.Log.{none_breaks}
use Rattle.book.proofs.FirstLaws.{first_from_end}
use Rattle.book.proofs.none_by_chain.Given as goal

-- the last m entries of the part are in the chains
abbrev pub invariant-loop-m : goal.invariant-loop-m
invariant-loop-m l = Linked (first_from_end l.part l.k) l.chains l.m

-- the entries of the part from its end up to the place are of other clients
abbrev pub invariant-loop-at : goal.invariant-loop-at
invariant-loop-at l = (l.ok ≡ true) × Sought (first_from_end l.part l.k) l.e.client l.k (held l.at)

abbrev pub decreases-loop-at : goal.decreases-loop-at
decreases-loop-at l = held l.at

-- the whole answer is that of what is left of the log
abbrev pub invariant-pairs : goal.invariant-pairs
invariant-pairs l =
    (l.ok ≡ true) × Linked (first_from_end l.part l.k) l.chains l.k
    × (none_breaks (entries l.n l.log) (entries l.k l.part) ≡ none_breaks (from_at l.n l.log l.i) (entries l.k l.part))
