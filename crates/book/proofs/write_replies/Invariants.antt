-- `book::write_replies` meets its contract. Assumes nothing.
use mathlib.Core.Path.{◌≡◌}
use lib.ListN.{length}
use Rattle.numbers.specs.Numbers.{over}
use Rattle.book.specs.Runs.{replies}
use Rattle.book.proofs.write_replies.Given as goal

abbrev pub invariant-loop-k : goal.invariant-loop-k
invariant-loop-k l =
    (length l.area ≡ length l.initial.area) × (l.area ≡ over (replies l.v l.log l.results l.from l.k) l.initial.area)
