-- A refused GetState or NewState leaves the state and every lent byte as they were. Assumes nothing.
use Prim.Native.Nat.{ℕ}
use mathlib.Core.Path.{refl}
use mathlib.Core.Bool.{Bool, true, false}
use mathlib.Core.List.{List}
use Rattle.numbers.specs.declared.View.{View}
use Rattle.numbers.specs.declared.Op.{Op}
use Rattle.numbers.proofs.WordLaws.{split}
use Rattle.state.specs.declared.Replica.{Replica}
use Rattle.transfer.specs.GetState.{get_state_step}
use Rattle.transfer.specs.NewState.{use_of, extended, gap_filled, installed, by_use, new_state_step}
use Rattle.transfer.specs.declared.Part.{Part}
use Rattle.transfer.specs.declared.Use.{Use}
use Rattle.transfer.specs.declared.Use.TheVariants.{Ignore, Hear, Fill, Install}
use Rattle.book.specs.Memory.{Memory}
use Rattle.steps.proofs.RefusedSteps.{Speaks, Leaves, done, refused, acked-done}
use Rattle.frames.specs.declared.Refusal.TheVariants.{NoRoomForMessages, NotRising}

module _ (s : Replica) (m : Memory) where
  -- ---- GetState

  pub get-state-untouched : (r : ℕ) (v : View) (o : Op) → Speaks s m (get_state_step s r v o m.runs.log m.out)
  unfolding get_state_step
  get-state-untouched r v o =
      split (Speaks s m) _ _ _ (λ _. done s m refl) λ _.
      split (Speaks s m) _ _ _ (λ _. refused s m NoRoomForMessages) (λ _. done s m refl)

  -- ---- NewState

  extended-untouched : (t : Replica) (n k : ℕ) (p : Part) (i : Bool) (part : List ℕ) → Leaves s m (extended s t n k p i part m.runs m.out)
  unfolding extended
  extended-untouched t n k p i part =
      split (Leaves s m) _ _ _ (λ _. refused s m NotRising) λ _.
      split (Leaves s m) _ _ _ (λ _. refused s m NoRoomForMessages) (λ e. done s m (acked-done s t p.commit i _ m.out e))

  use-untouched : (p : Part) (part : List ℕ) (u : Use) → Leaves s m (by_use u s p part m.runs m.out)
  unfolding by_use gap_filled installed
  use-untouched p part Ignore = done s m refl
  use-untouched p part Hear = done s m refl
  use-untouched p part Fill = extended-untouched _ _ _ p false _
  use-untouched p part Install = extended-untouched _ _ _ p true part

  pub new-state-untouched : (v : View) (p : Part) (part : List ℕ) → Leaves s m (new_state_step s v p part m.runs m.out)
  unfolding new_state_step
  new-state-untouched v p part = use-untouched p part (use_of s v p)
