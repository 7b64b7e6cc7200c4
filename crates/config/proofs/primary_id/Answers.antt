-- `config::primary_id` meets its contract. Assumes nothing.
use Rattle.config.specs.Setup.{primary_of}
use mathlib.Core.Path.{refl}
use native.Mathlib.Nat.{mod-lt}
use Rattle.config.proofs.primary_id.Goals as goal

pub returns : goal.returns
unfolding primary_of
returns c = (refl, mod-lt c.args.v.0 c.requires)
