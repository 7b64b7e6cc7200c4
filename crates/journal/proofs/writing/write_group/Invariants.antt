-- `journal::writing::write_group` meets its contract. Assumes nothing.
use Rattle.journal.specs.Steps.{totals_of_run, WritesGroup}
use Rattle.journal.proofs.GroupLaws.{Grouped}
use Rattle.journal.proofs.writing.write_group.Given as goal

-- of the first k entries the group's frames are written, and its totals are those after them
abbrev pub invariant-loop-k : goal.invariant-loop-k
invariant-loop-k l =
    record {
      grouped : Grouped l.group.members l.group.low (totals_of_run l.group.members l.k l.run) l.totals;
      written : WritesGroup l.group.members l.group.low l.k l.run l.initial.area l.area;
    }
