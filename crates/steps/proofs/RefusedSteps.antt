-- A refusal leaves the state and every lent byte as they were: the steps that the handlers share. Assumes nothing.
use Prim.Native.Nat.{ℕ}
use Rattle.std.specs.Prelude.{Err}
use mathlib.Core.Path.{◌≡◌, refl, sym, ap, ◌∙◌}
use mathlib.Core.Bool.{Bool, false}
use mathlib.Core.List.{List}
use lib.Dec.{ltb}
use lib.ListN.{length}
use Rattle.numbers.specs.Words.{when◌then◌else◌}
use Rattle.numbers.specs.declared.View.{View}
use Rattle.numbers.specs.declared.Op.{Op}
use Rattle.numbers.proofs.WordLaws.{split}
use Rattle.state.specs.Answers.{refusal, outcome_code, code_of}
use Rattle.state.specs.declared.Replica.{Replica}
use Rattle.steps.specs.Steps.{Spoke, Left, asked_for_state, transferred, deferred, committed_and_acked}
use Rattle.book.specs.Memory.{Runs, Memory}
use Rattle.steps.specs.declared.Accept.{Accept}
use Rattle.steps.specs.declared.Accept.TheVariants.{Ignore, Hear, Join, Rejoin, Take}
use Rattle.steps.specs.Recorded.{Recorded, recorded, only_sent, of_left}
use Rattle.frames.specs.declared.Refusal.TheVariants.{NoRoomForMessages}
use Rattle.frames.specs.declared.Refusal.{Refusal}
use Rattle.frames.proofs.RefusalLaws.{number-some}

-- done, or all as it was
abbrev pub Untouched : Replica → Memory → Recorded → Type 0
Untouched s m d = (k : Refusal) → d.answer.outcome ≡ Err k → d ≡ recorded (refusal k s) m

-- where PrepareOk fits it is done, whatever the runs: a handler that changes them first has tested that area before
pub acked-done : (s t : Replica) (k : Op) (installed : Bool) (x : Runs) (out : List ℕ) → ltb (length out) 16 ≡ false
    → (code_of (committed_and_acked s t k installed x out).answer) ≡ 0
unfolding committed_and_acked when◌then◌else◌
acked-done s t k installed x out e = rw e refl

module _ (s : Replica) (m : Memory) where
  pub done : {d : Recorded} → code_of d.answer ≡ 0 → Untouched s m d
  done e k h = absurd (number-some k (sym (ap outcome_code h) ∙ e))

  pub refused : (k : Refusal) → Untouched s m (recorded (refusal k s) m)
  refused k j h = let same : k ≡ j = cc h in rw same

  -- ---- messages alone

  abbrev pub Speaks : Spoke → Type 0
  Speaks d = Untouched s m (only_sent m d)

  pub asked-untouched : (t : Replica) (at : Op) → Speaks (asked_for_state s t at m.out)
  unfolding asked_for_state
  asked-untouched t at = split Speaks _ _ _ (λ _. refused NoRoomForMessages) (λ _. done refl)

  pub transferred-untouched : Speaks (transferred s m.out)
  unfolding transferred
  transferred-untouched = asked-untouched _ _

  pub deferred-untouched : (a : Accept) (v : View) → Speaks (deferred a s v m.out)
  unfolding deferred
  deferred-untouched Ignore v = done refl
  deferred-untouched Hear v = done refl
  deferred-untouched Join v = asked-untouched _ _
  deferred-untouched Rejoin v = asked-untouched _ _
  deferred-untouched Take v = done refl

  -- ---- PrepareOk, of the runs as they were

  abbrev pub Leaves : Left → Type 0
  Leaves d = Untouched s m (of_left m d)

  pub acked-untouched : (t : Replica) (k : Op) (installed : Bool) → Leaves (committed_and_acked s t k installed m.runs m.out)
  unfolding committed_and_acked
  acked-untouched t k installed = split Leaves _ _ _ (λ _. refused NoRoomForMessages) (λ _. done refl)
