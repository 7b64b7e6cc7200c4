-- Each way out of a creation, on plain variables, as the code's tests and calls give them, and what one that isn't refused says of setup and lengths.
--     not-created, created; not-recovered, no_room, recovered
--     create-long, recover-long
-- Assumes nothing.
use mathlib.Core.Path.{◌≡◌, refl, sym, ap, ◌∙◌, subst}
use mathlib.Core.Bool.{Bool, true, false, not}
use mathlib.Core.List.{List}
use Prim.Native.Nat.{ℕ, ◌≤◌, ◌<◌}
use native.Mathlib.Omega.{arith}
use lib.ListN.{length, replicate}
use borrow.Author.Tests.{lt-ltb, le-ltb}
use Rattle.numbers.specs.Words.{when◌then◌else◌}
use Rattle.numbers.specs.Numbers.{over}
use Rattle.numbers.specs.declared.View.{View}
use Rattle.numbers.proofs.WordLaws.{split, if-false}
use Rattle.config.specs.Setup.{setup_ok}
use Rattle.config.specs.declared.Setup.{Setup}
use Rattle.frames.specs.declared.Status.TheVariants.{Normal, Recovering}
use Rattle.state.specs.State.{new_in}
use Rattle.state.specs.Answers.{refusal, completed, code_of}
use Rattle.state.specs.Lengths.{totals_length, acks_length}
use Rattle.state.specs.declared.Returned.{Returned}
use Rattle.state.specs.declared.Replica.{Replica}
use Rattle.steps.specs.Steps.{spoke}
use Rattle.recovery.specs.Recovery.{recoveries_length, recoveries_of, recovering_tick}
use Rattle.outside.specs.Sound.{creatable, no_replica}
use Rattle.outside.specs.Creation.{Started, started, create_step, recover_step}
use Rattle.outside.specs.declared.Lengths.{Lengths}
use Rattle.outside.proofs.SoundLaws.{Long, creatable-is}
use Rattle.frames.specs.declared.Refusal.TheVariants.{OutOfRange, NoRoomForMessages}

module _ (u : Setup) (lengths : Lengths) (totals acks out : List ℕ) (b : Bool) (e : b ≡ creatable u lengths) where
  pub not-created : not b ≡ true → {a : Returned} (z : Replica) → z ≡ no_replica → a ≡ refusal OutOfRange z
      → started a totals acks out ≡ create_step u lengths totals acks out
  unfolding create_step when◌then◌else◌
  not-created h z q p = rw (← e, h, p, q)

  module _ (h : not b ≡ false) {totals' acks' : List ℕ} (t : totals' ≡ over (replicate (totals_length u) 0) totals)
      (k : acks' ≡ over (replicate (acks_length u) 0) acks) where
    pub created : {a : Returned} (s : Replica) → s ≡ new_in u Normal (record { 0 = 0 }) 0 → a ≡ completed s 0 0 false
        → started a totals' acks' out ≡ create_step u lengths totals acks out
    unfolding create_step when◌then◌else◌
    created s q p = rw (← e, h, p, q, t, k)

    module _ (v : View) (nonce : ℕ) (s : Replica) (q : s ≡ new_in u Recovering v nonce) where
      sends : recoveries_length s ≤ length out → recovering_tick s out ≡ spoke (completed s (recoveries_length s) 0 false) (over (recoveries_of s) out)
      unfolding recovering_tick
      sends l = if-false _ _ _ (le-ltb (length out) (recoveries_length s) l)

      comes_back : recoveries_length s ≤ length out
          → started (completed s (recoveries_length s) 0 false) totals' acks' (over (recoveries_of s) out) ≡ recover_step u v nonce lengths totals acks out
      unfolding recover_step
      comes_back l =
          rw (t, k, q)
          (sym
          (if-false _ _ _ (ap not (sym e) ∙ h)
          ∙ if-false _ _ _
          (le-ltb (length out) (recoveries_length (new_in u Recovering v nonce)) (subst (λ (y : Replica). recoveries_length y ≤ length out) q l))))

      pub recovered : recoveries_length s ≤ length out → {a : Returned} {out' : List ℕ} → spoke a out' ≡ recovering_tick s out
          → started a totals' acks' out' ≡ recover_step u v nonce lengths totals acks out
      recovered l p = ap (λ z. started z.answer totals' acks' z.out) (p ∙ sends l) ∙ comes_back l

  pub not-recovered : not b ≡ true → (v : View) (nonce : ℕ) {a : Returned} (z : Replica) → z ≡ no_replica → a ≡ refusal OutOfRange z
      → started a totals acks out ≡ recover_step u v nonce lengths totals acks out
  unfolding recover_step when◌then◌else◌
  not-recovered h v nonce z q p = rw (← e, h, p, q)

  pub no_room : not b ≡ false → (v : View) (nonce : ℕ) → length out < recoveries_length (new_in u Recovering v nonce) → {a : Returned} (z : Replica)
      → z ≡ no_replica → a ≡ refusal NoRoomForMessages z → started a totals acks out ≡ recover_step u v nonce lengths totals acks out
  unfolding recover_step when◌then◌else◌
  no_room h v nonce l z q p = rw (← e, h, lt-ltb (length out) (recoveries_length (new_in u Recovering v nonce)) l, p, q)

-- where it isn't refused, the setup is one and each buffer has its length
module _ (u : Setup) (lengths : Lengths) (totals acks out : List ℕ) where
  abbrev Tells : Started → Type 0
  Tells d = code_of d.answer ≡ 0 → (setup_ok u ≡ true) × Long u lengths

  pub create-long : {d : Started} → d ≡ create_step u lengths totals acks out → code_of d.answer ≡ 0 → (setup_ok u ≡ true) × Long u lengths
  unfolding create_step
  create-long e =
      subst Tells (sym e)
      (split Tells _ _ _ (λ _ z. absurd (omega (arith, z))) (λ f _. creatable-is u lengths _ refl f))

  pub recover-long : (v : View) (nonce : ℕ) {d : Started} → d ≡ recover_step u v nonce lengths totals acks out → code_of d.answer ≡ 0
      → (setup_ok u ≡ true) × Long u lengths
  unfolding recover_step
  recover-long v nonce e =
      subst Tells (sym e)
      (split Tells _ _ _ (λ _ z. absurd (omega (arith, z))) λ f.
      split Tells _ _ _ (λ _ z. absurd (omega (arith, z))) (λ _ _. creatable-is u lengths _ refl f))
