-- GetState, NewState and a tick in StateTransfer give no replies. Assumes nothing.
use mathlib.Core.Path.{refl}
use mathlib.Core.Bool.{Bool}
use mathlib.Core.List.{List}
use Prim.Native.Nat.{ℕ}
use Rattle.numbers.specs.declared.View.{View}
use Rattle.numbers.specs.declared.Op.{Op}
use Rattle.numbers.proofs.WordLaws.{split}
use Rattle.clock.specs.declared.Clock.{Clock}
use Rattle.state.specs.declared.Replica.{Replica}
use Rattle.steps.proofs.SilentSteps.{Mute, MuteLeft, asked-mute, acked-mute}
use Rattle.book.specs.Memory.{Runs}
use Rattle.transfer.specs.GetState.{get_state_step}
use Rattle.transfer.specs.NewState.{use_of, extended, gap_filled, installed, by_use, new_state_step}
use Rattle.transfer.specs.Tick.{transfer_tick}
use Rattle.transfer.specs.declared.Part.{Part}
use Rattle.transfer.specs.declared.Use.{Use}
use Rattle.transfer.specs.declared.Use.TheVariants.{Ignore, Hear, Fill, Install}

module _ (s : Replica) (out : List ℕ) where
  pub get-state-mute : (r : ℕ) (v : View) (o : Op) (log : List ℕ) → Mute (get_state_step s r v o log out)
  unfolding get_state_step
  get-state-mute r v o log = split Mute _ _ _ (λ _. refl) (λ _. split Mute _ _ _ (λ _. refl) (λ _. refl))

  pub transfer-tick-mute : (c : Clock) → Mute (transfer_tick s c out)
  unfolding transfer_tick
  transfer-tick-mute c = asked-mute s _ _ out

  extended-mute : (t : Replica) (n k : ℕ) (p : Part) (i : Bool) (part : List ℕ) (x : Runs) → MuteLeft (extended s t n k p i part x out)
  unfolding extended
  extended-mute t n k p i part x =
      split MuteLeft _ _ _ (λ _. refl) (λ _. split MuteLeft _ _ _ (λ _. refl) (λ _. acked-mute s t p.commit i _ out))

  use-mute : (p : Part) (part : List ℕ) (x : Runs) (u : Use) → MuteLeft (by_use u s p part x out)
  unfolding by_use gap_filled installed
  use-mute p part x Ignore = refl
  use-mute p part x Hear = refl
  use-mute p part x Fill = extended-mute _ _ _ p _ _ x
  use-mute p part x Install = extended-mute _ _ _ p _ part x

  pub new-state-mute : (v : View) (p : Part) (part : List ℕ) (x : Runs) → MuteLeft (new_state_step s v p part x out)
  unfolding new_state_step
  new-state-mute v p part x = use-mute p part x (use_of s v p)
