-- `book::commit_up_to` meets its contract. Assumes nothing.
use mathlib.Core.Path.{◌≡◌}
use Prim.Native.Nat.{◌-◌}
use lib.ListN.{length}
use Rattle.book.specs.Runs.{money_committed, takings_committed}
use Rattle.book.specs.Memory.{money}
use Rattle.book.proofs.commit_up_to.Given as goal

abbrev pub invariant-loop-i : goal.invariant-loop-i
invariant-loop-i l =
    (length l.results ≡ length l.initial.results) × (length l.totals ≡ length l.initial.totals)
    × (money l.results l.totals ≡ money_committed l.members l.log l.from (l.i - l.from) (money l.initial.results l.initial.totals))
    × (l.sum ≡ takings_committed l.members l.log l.from (l.i - l.from) (money l.initial.results l.initial.totals) l.takings)
