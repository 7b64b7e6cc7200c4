-- `journal::takings` meets its contract. Assumes nothing.
use mathlib.Core.Path.{◌≡◌}
use Prim.Native.Nat.{◌+◌, ◌-◌, ◌*◌, ◌≤◌}
use lib.ListN.{length, drop}
use Rattle.numbers.specs.Cells.{cells}
use Rattle.layout.specs.Layout.{total_of}
use Rattle.safety.specs.Money.{sum}
use Rattle.journal.specs.Calls.{all_small}
use Rattle.journal.proofs.TakingLaws.{There}
use Rattle.journal.proofs.takings.Given as goal

-- so many totals are added up, and the whole answer is that of what is left
abbrev pub invariant-loop-total : goal.invariant-loop-total
invariant-loop-total l =
    let i = length l.yielded in
    record {
      there : There l.members l.totals;
      size : l.total-iterator.size ≡ 8;
      rest : l.total-iterator.rest.now ≡ drop (8 * i) l.totals;
      some : i ≤ l.members;
      below : l.cents ≤ 1000000000 * i;
      small : all_small (cells 8 total_of l.members l.totals) ≡ all_small (cells 8 total_of (l.members - i) (drop (8 * i) l.totals));
      added : sum (cells 8 total_of l.members l.totals) ≡ l.cents + sum (cells 8 total_of (l.members - i) (drop (8 * i) l.totals));
    }
