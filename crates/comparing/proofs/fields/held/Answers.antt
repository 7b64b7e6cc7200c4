-- `comparing::fields::held` meets its contract. Assumes nothing.
use Rattle.std.proofs.Common.{refl}
use Rattle.comparing.specs.Fields.{held_set}
use Rattle.comparing.proofs.fields.held.Goals as goal

pub loop-i-init : goal.loop-i-init
unfolding held_set
loop-i-init c = refl
