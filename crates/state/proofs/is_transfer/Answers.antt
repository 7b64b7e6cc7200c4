-- `state::is_transfer` meets its contract. Assumes nothing.
use mathlib.Core.Path.{◌≡◌, refl}
use mathlib.Core.Bool.{false}
use Rattle.frames.specs.declared.Status.{Status}
use Rattle.frames.specs.declared.Status.TheVariants.{Normal, StateTransfer, ViewChange, Recovering}
use Rattle.state.specs.Statuses.{is_transfer}
use Rattle.state.proofs.is_transfer.Goals as goal

other : (s : Status) → (s ≡ StateTransfer → ⊥) → false ≡ is_transfer s
unfolding is_transfer
other Normal n = refl
other StateTransfer n = absurd (n refl)
other ViewChange n = refl
other Recovering n = refl

pub returns-in-StateTransfer : goal.returns-in-StateTransfer
unfolding is_transfer
returns-in-StateTransfer c = rw c.in-StateTransfer.is

pub returns-in_default : goal.returns-in_default
returns-in_default c = other c.args.status c.in_default.not-StateTransfer
