-- `journal::examining::examine` meets its contract. Assumes nothing.
use Prim.Native.Nat.{◌-◌}
use Rattle.journal.specs.Steps.{ExaminedBelow}
use Rattle.journal.proofs.examining.examine.Given as goal

abbrev pub invariant-loop-low : goal.invariant-loop-low
invariant-loop-low l = ExaminedBelow l.members l.low l.file l.j

abbrev pub decreases-loop-low : goal.decreases-loop-low
decreases-loop-low l = l.members - l.low
