-- `journal::writing::write_frames` meets its contract. Assumes nothing.
use Prim.Native.Nat.{◌-◌}
use Rattle.entries.specs.Entries.{run_count}
use Rattle.journal.proofs.WrittenLaws.{WrittenBelow}
use Rattle.journal.proofs.writing.write_frames.Given as goal

abbrev pub invariant-loop-low : goal.invariant-loop-low
invariant-loop-low l = WrittenBelow l.members l.low (run_count l.run) l.run l.initial.area l.area

abbrev pub decreases-loop-low : goal.decreases-loop-low
decreases-loop-low l = l.members - l.low
