-- GetState, NewState and a tick in StateTransfer aren't refused for want of room in areas of `out_length` and `reps_length` bytes. Assumes nothing.
use mathlib.Core.Bool.{Bool}
use mathlib.Core.List.{List}
use Prim.Native.Nat.{ℕ}
use native.Mathlib.Omega.{arith}
use Rattle.numbers.specs.declared.View.{View}
use Rattle.numbers.specs.declared.Op.{Op}
use Rattle.numbers.proofs.WordLaws.{split}
use Rattle.clock.specs.declared.Clock.{Clock}
use Rattle.state.specs.declared.Replica.{Replica}
use Rattle.steps.specs.Steps.{Sound, Spoke, Left}
use Rattle.steps.proofs.AreaLaws.{one-fits, later, done, no_room}
use Rattle.steps.proofs.StepsSuffice.{Spoken, LeftBy, asked-suffices, acked-suffices}
use Rattle.book.specs.Memory.{Runs}
use Rattle.transfer.specs.GetState.{new_state_length, get_state_step}
use Rattle.transfer.specs.NewState.{use_of, extended, gap_filled, installed, by_use, new_state_step}
use Rattle.transfer.specs.Tick.{transfer_tick}
use Rattle.transfer.specs.declared.Part.{Part}
use Rattle.transfer.specs.declared.Use.{Use}
use Rattle.transfer.specs.declared.Use.TheVariants.{Ignore, Hear, Fill, Install}

-- `room` is the length of the area for replies
module _ (s : Replica) (x : Runs) (h : Sound s x) (out : List ℕ) (room : ℕ) where
  abbrev SpokenHere : Spoke → Type 0
  SpokenHere = Spoken s.setup h.sized out room

  abbrev LeftHere : Left → Type 0
  LeftHere = LeftBy s.setup h.sized out room

  pub get-state-suffices : (r : ℕ) (v : View) (o : Op) (log : List ℕ) → SpokenHere (get_state_step s r v o log out)
  unfolding get_state_step
  get-state-suffices r v o log =
      split SpokenHere _ _ _ (λ _. done) λ _.
      split SpokenHere _ _ _
      (no_room (new_state_length s o) (one-fits s.setup h.sized (new_state_length s o) (omega (arith, h.op_le)))) λ _. done

  extended-suffices : (t : Replica) (n k : ℕ) (p : Part) (i : Bool) (part : List ℕ) → LeftHere (extended s t n k p i part x out)
  unfolding extended
  extended-suffices t n k p i part =
      split LeftHere _ _ _ (λ _. later (omega arith) (omega arith)) λ _.
      split LeftHere _ _ _ (no_room 16 (one-fits s.setup h.sized 16 (omega arith)))
      (λ _. acked-suffices s.setup h.sized out room s t p.commit i _)

  use-suffices : (p : Part) (part : List ℕ) (u : Use) → LeftHere (by_use u s p part x out)
  unfolding by_use gap_filled installed
  use-suffices p part Ignore = done
  use-suffices p part Hear = done
  use-suffices p part Fill = extended-suffices _ _ _ p _ _
  use-suffices p part Install = extended-suffices _ _ _ p _ part

  pub new-state-suffices : (v : View) (p : Part) (part : List ℕ) → LeftHere (new_state_step s v p part x out)
  unfolding new_state_step
  new-state-suffices v p part = use-suffices p part (use_of s v p)

  pub transfer-tick-suffices : (c : Clock) → SpokenHere (transfer_tick s c out)
  unfolding transfer_tick
  transfer-tick-suffices c = asked-suffices s.setup h.sized out room s _ _
