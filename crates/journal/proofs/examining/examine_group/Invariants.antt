-- `journal::examining::examine_group` meets its contract. Assumes nothing.
use mathlib.Core.Path.{◌≡◌}
use Prim.Native.Nat.{◌*◌, ◌≤◌}
use lib.ListN.{take, drop}
use Rattle.journal.specs.Steps.{totals_filed}
use Rattle.journal.proofs.GroupLaws.{Grouped}
use Rattle.journal.proofs.BelowLaws.{Right}
use Rattle.journal.proofs.examining.examine_group.Given as goal

-- the group's results are right in the first i frames, and its totals are those after them
abbrev pub invariant-loop-i : goal.invariant-loop-i
invariant-loop-i l =
    let i = l.i-iterator.count in
    record {
      size : l.i-iterator.iter.size ≡ 50;
      rest : l.i-iterator.iter.rest.now ≡ drop (50 * i) (take (50 * l.j.frames) l.file);
      there : i ≤ l.j.frames;
      grouped : Grouped l.group.members l.group.low (totals_filed l.group.members i l.file) l.totals;
      right : Right l.group.members l.group.low i l.file;
    }
