-- `journal::examining::copy_entries` meets its contract. Assumes nothing.
use mathlib.Core.Path.{◌≡◌}
use lib.ListN.{length}
use Rattle.numbers.specs.Numbers.{over}
use Rattle.numbers.specs.Cells.{packed}
use Rattle.entries.specs.Entries.{encode_entry}
use Rattle.journal.specs.Journal.{filed}
use Rattle.journal.proofs.examining.copy_entries.Given as goal

abbrev pub invariant-loop-j : goal.invariant-loop-j
invariant-loop-j l =
    record {
      long : length l.area ≡ length l.initial.area;
      copied : l.area ≡ over (packed encode_entry (filed l.j l.file)) l.initial.area;
    }
