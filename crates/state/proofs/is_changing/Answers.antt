-- `state::is_changing` meets its contract. Assumes nothing.
use mathlib.Core.Path.{◌≡◌, refl}
use mathlib.Core.Bool.{false}
use Rattle.frames.specs.declared.Status.{Status}
use Rattle.frames.specs.declared.Status.TheVariants.{Normal, StateTransfer, ViewChange, Recovering}
use Rattle.state.specs.Statuses.{is_changing}
use Rattle.state.proofs.is_changing.Goals as goal

other : (s : Status) → (s ≡ ViewChange → ⊥) → false ≡ is_changing s
unfolding is_changing
other Normal n = refl
other StateTransfer n = refl
other ViewChange n = absurd (n refl)
other Recovering n = refl

pub returns-in-ViewChange : goal.returns-in-ViewChange
unfolding is_changing
returns-in-ViewChange c = rw c.in-ViewChange.is

pub returns-in_default : goal.returns-in_default
returns-in_default c = other c.args.status c.in_default.not-ViewChange
