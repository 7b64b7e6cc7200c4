-- `state::is_normal` meets its contract. Assumes nothing.
use mathlib.Core.Path.{◌≡◌, refl}
use mathlib.Core.Bool.{false}
use Rattle.frames.specs.declared.Status.{Status}
use Rattle.frames.specs.declared.Status.TheVariants.{Normal, StateTransfer, ViewChange, Recovering}
use Rattle.state.specs.Statuses.{is_normal}
use Rattle.state.proofs.is_normal.Goals as goal

other : (s : Status) → (s ≡ Normal → ⊥) → false ≡ is_normal s
unfolding is_normal
other Normal n = absurd (n refl)
other StateTransfer n = refl
other ViewChange n = refl
other Recovering n = refl

pub returns-in-Normal : goal.returns-in-Normal
unfolding is_normal
returns-in-Normal c = rw c.in-Normal.is

pub returns-in_default : goal.returns-in_default
returns-in_default c = other c.args.status c.in_default.not-Normal
