-- Demand 1 of creation and recovery: a refused one hands back the all-zero state, and leaves every lent byte as it was.
--     create-untouched, recover-untouched    whatever refused it
--     create-outside, recover-outside        a setup outside the sizes, of numbers that need fit no field, is refused by 1
-- Assumes nothing.
use mathlib.Core.Path.{◌≡◌, refl, sym, ap, ◌∙◌, subst}
use mathlib.Core.Bool.{false, not}
use Prim.Native.Nat.{ℕ}
use native.Mathlib.Omega.{arith}
use Rattle.numbers.specs.declared.View.{View}
use Rattle.numbers.proofs.WordLaws.{split, if-true, if-false}
use Rattle.config.specs.Setup.{setup_ok}
use Rattle.config.specs.declared.Setup.{Setup}
use Rattle.state.specs.Answers.{refusal}
use Rattle.outside.specs.Sound.{creatable, no_replica}
use Rattle.outside.specs.Creation.{Started, started, create_step, recover_step}
use Rattle.outside.specs.declared.Lengths.{Lengths}
use Rattle.replica.specs.Calls.{cleared, create_call, recover_call}
use Rattle.replica.specs.Lent.{Lent, Called, called}
use Rattle.replica.specs.Promise.{CreatePromise, RecoverPromise}
use Rattle.replica.specs.Demands.{Untouched}
use Rattle.replica.proofs.CreateLaws.{cleared-refused, cleared-done}
use Rattle.frames.specs.declared.Refusal.TheVariants.{OutOfRange, NoRoomForMessages}
use Rattle.frames.specs.declared.Refusal.{Refusal}

module _ (u : Setup) (x : Lent) where
  -- what is left, by the runs that a creation writes
  abbrev UntouchedBy : Started → Type 0
  UntouchedBy d = Untouched no_replica x (cleared u x d)

  refuses : (k : Refusal) → UntouchedBy (started (refusal k no_replica) x.core.runs.money.totals x.core.acks x.core.out)
  refuses k = subst (Untouched no_replica x) (sym (cleared-refused u x k no_replica)) (λ j h. let same : k ≡ j = cc h in rw same)

  pub create-untouched : (d : Called) → CreatePromise u x d → Untouched no_replica x d
  unfolding create_call create_step
  create-untouched d p =
      subst (Untouched no_replica x) (sym p.exact)
      (split UntouchedBy _ _ _ (λ _. refuses OutOfRange)
      (λ _. subst (Untouched no_replica x) (sym (cleared-done u x _ _ refl)) (λ j h. absurd (cc h))))

module _ (u : Setup) (v : View) (nonce : ℕ) (x : Lent) where
  pub recover-untouched : (d : Called) → RecoverPromise u v nonce x d → Untouched no_replica x d
  unfolding recover_call recover_step
  recover-untouched d p =
      subst (Untouched no_replica x) (sym p.exact)
      (split (UntouchedBy u x) _ _ _ (λ _. refuses u x OutOfRange) λ _.
      split (UntouchedBy u x) _ _ _ (λ _. refuses u x NoRoomForMessages)
      (λ _. subst (Untouched no_replica x) (sym (cleared-done u x _ _ refl)) (λ j h. absurd (cc h))))

module _ (u : Setup) (x : Lent) (outside : setup_ok u ≡ false) where
  uncreatable : (l : Lengths) → not (creatable u l) ≡ not false
  unfolding creatable
  uncreatable l = ap not (if-false _ _ _ outside)

  pub create-outside : create_call u x ≡ called (refusal OutOfRange no_replica) x
  unfolding create_call create_step
  create-outside = ap (cleared u x) (if-true _ _ _ (uncreatable _)) ∙ cleared-refused u x OutOfRange no_replica

  pub recover-outside : (v : View) (nonce : ℕ) → recover_call u v nonce x ≡ called (refusal OutOfRange no_replica) x
  unfolding recover_call recover_step
  recover-outside v nonce = ap (cleared u x) (if-true _ _ _ (uncreatable _)) ∙ cleared-refused u x OutOfRange no_replica
