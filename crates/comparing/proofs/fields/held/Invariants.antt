-- `comparing::fields::held` meets its contract. Assumes nothing.
use Rattle.std.proofs.Common.{◌≡◌}
use Rattle.comparing.specs.Fields.{held_set}
use Rattle.comparing.proofs.fields.held.Given as goal

abbrev pub invariant-loop-i : goal.invariant-loop-i
invariant-loop-i l = l.set ≡ held_set l.i l.t.rows
