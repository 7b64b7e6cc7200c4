-- `journal::writing::copy_frames` meets its contract. Assumes nothing.
use mathlib.Core.Path.{◌≡◌}
use lib.ListN.{length, drop}
use Rattle.numbers.specs.Numbers.{over}
use Rattle.entries.specs.Entries.{entries}
use Rattle.entries.specs.Places.{entry_place, result_place}
use Rattle.fees.specs.Results.{outcomes}
use Rattle.journal.specs.Journal.{frames_after}
use Rattle.journal.proofs.writing.copy_frames.Given as goal

abbrev pub invariant-loop-j : goal.invariant-loop-j
invariant-loop-j l =
    record {
      long : length l.area ≡ length l.initial.area;
      copied :
          l.area ≡ over (frames_after l.from (entries l.j (drop (entry_place l.from) l.log)) (outcomes l.j (drop (result_place l.from) l.results))) l.initial.area;
    }
