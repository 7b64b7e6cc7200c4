-- A frame's refusals, on plain variables, as the code's tests and calls give them.
--     unsound, is-checked           each way out of `checked`
--     past-1, passed_is             past refusal 1 the frame decides; what a frame says that passed
--     carries-none                  which messages carry no entry
--     told-his, told-other          what the handler is told, by whether the message carries an entry
--     told-answered                 a reply that he is told is the one that is kept
-- Assumes nothing.
use Rattle.std.specs.Prelude.{Some, None, is_some, Result, Ok, Err}
use mathlib.Core.Path.{◌≡◌, refl, sym, ap, ◌∙◌, subst}
use mathlib.Core.Bool.{Bool, true, false, not}
use mathlib.Core.List.{List}
use Prim.Native.Nat.{ℕ}
use borrow.Author.Tests.{not-false}
use Rattle.numbers.proofs.WordLaws.{split, if-true, if-false}
use Rattle.fees.specs.declared.Outcome.{Outcome}
use Rattle.frames.specs.Refusals.{check_frame}
use Rattle.frames.specs.declared.Message.{Message}
use Rattle.frames.specs.declared.Refusal.{Refusal}
use Rattle.client_table.specs.declared.Latest.{Latest}
use Rattle.client_table.specs.declared.Latest.TheVariants.{Nothing, Waiting, Answered}
use Rattle.state.specs.declared.Replica.{Replica}
use Rattle.outside.specs.Sound.{sound}
use Rattle.outside.specs.Calls.{checked_of, carried_by, told_of}
use Rattle.outside.specs.declared.Lengths.{Lengths}
use Rattle.frames.specs.declared.Refusal.TheVariants.{OutOfRange}
use Rattle.numbers.specs.declared.View.{View}
use Rattle.numbers.specs.declared.Op.{Op}
use Rattle.entries.specs.declared.Entry.{Entry}
use Rattle.frames.specs.declared.Message.TheVariants.{Request, Prepare, PrepareOk, Commit, GetState, NewState, StartViewChange, DoViewChange, StartView, Recovery, RecoveryResponse}

-- a frame isn't refused and passed at once
abbrev Stops : Result Message Refusal → Type 0
Stops (Err k) = Unit
Stops (Ok m) = ⊥

refused-passed : {k : Refusal} {m : Message} → Err k ≡ Ok m → ⊥
refused-passed r = subst Stops r tt

module _ (s : Replica) (l : Lengths) (frame : List ℕ) where
  module _ (b : Bool) (e : b ≡ sound s l) where
    pub unsound : not b ≡ true → Err OutOfRange ≡ checked_of s l frame
    unfolding checked_of
    unsound h = sym (if-true _ _ _ (ap not (sym e) ∙ h))

    pub is-checked : not b ≡ false → {j : Result Message Refusal} → j ≡ check_frame s.setup frame → j ≡ checked_of s l frame
    unfolding checked_of
    is-checked h q = q ∙ sym (if-false _ _ _ (ap not (sym e) ∙ h))

  -- past refusal 1 the frame decides
  pub past-1 : sound s l ≡ true → checked_of s l frame ≡ check_frame s.setup frame
  unfolding checked_of
  past-1 e = if-false _ _ _ (ap not e)

  pub passed_is : (m : Message) → checked_of s l frame ≡ Ok m → (sound s l ≡ true) × (check_frame s.setup frame ≡ Ok m)
  unfolding checked_of
  passed_is m =
      split (λ (j : Result Message Refusal). j ≡ Ok m → (sound s l ≡ true) × (check_frame s.setup frame ≡ Ok m)) (not (sound s l)) _ _
      (λ _ r. absurd (refused-passed r)) (λ f r. (not-false (sound s l) f, r))

-- of a client whose reply is kept something is known
abbrev Unanswered : Latest → Type 0
Unanswered Nothing = Unit
Unanswered (Waiting request) = Unit
Unanswered (Answered request o) = ⊥

nothing-answered : {r : ℕ} {o : Outcome} → Nothing ≡ Answered r o → ⊥
nothing-answered p = subst Unanswered p tt

-- a message that is neither a Request nor a Prepare carries no entry
pub carries-none : (m : Message) → ((e : Entry) → m ≡ Request e → ⊥) → ((v : View) (o c : Op) (e : Entry) → m ≡ Prepare v o c e → ⊥)
    → None ≡ carried_by m
unfolding carried_by
carries-none (Request e) r p = absurd (r e refl)
carries-none (Prepare v o c e) r p = absurd (p v o c e refl)
carries-none (PrepareOk v o r) _ _ = refl
carries-none (Commit v c) _ _ = refl
carries-none (GetState r v o) _ _ = refl
carries-none (NewState v a z c) _ _ = refl
carries-none (StartViewChange v r) _ _ = refl
carries-none (DoViewChange v r l o c) _ _ = refl
carries-none (StartView v o c) _ _ = refl
carries-none (Recovery r x v) _ _ = refl
carries-none (RecoveryResponse v x r t) _ _ = refl

-- what the handler is told
module _ (m : Message) (l : Latest) where
  pub told-his : (c : ℕ) → carried_by m ≡ Some c → told_of m l ≡ l
  unfolding told_of
  told-his c e = if-true _ _ _ (ap is_some e)

  pub told-other : carried_by m ≡ None → told_of m l ≡ Nothing
  unfolding told_of
  told-other e = if-false _ _ _ (ap is_some e)

  pub told-answered : {r : ℕ} {o : Outcome} → told_of m l ≡ Answered r o → l ≡ Answered r o
  unfolding told_of
  told-answered {r} {o} =
      split (λ (k : Latest). k ≡ Answered r o → l ≡ Answered r o) (is_some (carried_by m)) l Nothing (λ _ p. p) (λ _ p. absurd (nothing-answered p))
