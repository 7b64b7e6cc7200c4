-- `comparing::fields::differing` meets its contract. Assumes nothing.
use Rattle.std.proofs.Common.{◌≡◌, drop}
use Rattle.comparing.specs.Fields.{first_differing}
use Rattle.comparing.proofs.fields.differing.Given as goal

abbrev pub invariant-loop-k : goal.invariant-loop-k
invariant-loop-k l = first_differing l.line 0 l.values ≡ first_differing l.line l.k (drop l.k l.values)
