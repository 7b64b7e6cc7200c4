-- No outside call is refused for want of room in areas of `out_length` and `reps_length` bytes, for any state, any frame and any memory; a creation
-- sends nothing, and is never refused by 9 or 10 at all. Assumes nothing.
use Rattle.std.specs.Prelude.{Result, Ok, Err}
use mathlib.Core.Path.{◌≡◌, refl}
use mathlib.Core.Bool.{true, not}
use mathlib.Core.List.{List}
use mathlib.Core.Logic.{⊎_elim}
use Prim.Native.Nat.{ℕ, ◌<◌}
use native.Mathlib.Omega.{arith}
use lib.ListN.{length}
use borrow.Author.Tests.{not-false}
use Rattle.numbers.specs.declared.View.{View}
use Rattle.numbers.proofs.WordLaws.{split}
use Rattle.config.specs.declared.Setup.{Setup}
use Rattle.frames.specs.Refusals.{number_of, check_frame}
use Rattle.frames.specs.declared.Refusal.{Refusal}
use Rattle.frames.specs.declared.Status.TheVariants.{Recovering}
use Rattle.frames.proofs.RefusalLaws.{Listed, refused-number}
use Rattle.state.specs.State.{new_in}
use Rattle.state.specs.declared.Replica.{Replica}
use Rattle.steps.specs.Recorded.{Recorded, Gathering}
use Rattle.steps.specs.Areas.{Suffices}
use Rattle.steps.proofs.AreaLaws.{Answers, others, done, no_room}
use Rattle.recovery.specs.Recovery.{recoveries_length}
use Rattle.recovery.proofs.RecoverySuffices.{recoveries-fit}
use Rattle.handlers.proofs.Suffice.{message-suffices, idle-suffices}
use Rattle.outside.specs.Sound.{sound, creatable}
use Rattle.outside.specs.Calls.{checked_of}
use Rattle.outside.specs.Creation.{Started, create_step, recover_step}
use Rattle.outside.proofs.SoundLaws.{sound-is, creatable-is}
use Rattle.replica.specs.Calls.{Tabled, followed_by, following, checked_call, message_call, idle_call, cleared, create_call, recover_call}
use Rattle.replica.specs.Lent.{Lent, Called, lengths_of}
use Rattle.state.specs.Answers.{code_of}
use Rattle.frames.specs.declared.Message.{Message}

-- a call that is lent x, in a setup
abbrev pub Enough : Setup → Lent → Called → Type 0
Enough u x d = Suffices u (length x.core.out) (length x.core.reps) (code_of d.answer)

-- refusals 2 to 6
listed : (k : ℕ) → Listed k → k < 9
listed k h =
    ⊎_elim (λ e. omega (arith, e))
    (⊎_elim (λ e. omega (arith, e)) (⊎_elim (λ e. omega (arith, e)) (⊎_elim (λ e. omega (arith, e)) (λ e. omega (arith, e))))) h

module _ (s : Replica) (x : Lent) where
  -- the table changes nothing of the answer
  follows : (d : Recorded) → Answers s.setup (length x.core.out) (length x.core.reps) (code_of d.answer)
      → Enough s.setup x (following s x.table d)
  unfolding following followed_by
  follows d h =
      split (λ (t : Tabled). Suffices s.setup (length x.core.out) (length x.core.reps) (code_of t.answer)) _ _ _ (λ _. h.suffices) (λ _. h.suffices)

  gathers : sound s (lengths_of x) ≡ true → Gathering s x.core
  gathers p = (sound-is s x.core (length x.table) p).gathering

  -- ---- on_message

  checked-suffices : (frame : List ℕ) → sound s (lengths_of x) ≡ true → (j : Result Message Refusal) → check_frame s.setup frame ≡ j
      → Enough s.setup x (checked_call j s frame x)
  unfolding checked_call
  checked-suffices frame p (Err k) e = others (listed (number_of k) (refused-number s.setup frame k e))
  checked-suffices frame p (Ok m) e = follows _ (message-suffices s x.core (gathers p) m _ frame e)

  pub message-call-suffices : (frame : List ℕ) → Enough s.setup x (message_call s frame x)
  unfolding message_call checked_of checked_call
  message-call-suffices frame =
      split (λ (j : Result Message Refusal). Enough s.setup x (checked_call j s frame x)) (not (sound s (lengths_of x))) _ _ (λ _. others (omega arith))
      (λ f. checked-suffices frame (not-false (sound s (lengths_of x)) f) (check_frame s.setup frame) refl)

  -- ---- on_idle

  pub idle-call-suffices : Enough s.setup x (idle_call s x)
  unfolding idle_call
  idle-call-suffices =
      split (Enough s.setup x) (not (sound s (lengths_of x))) _ _ (λ _. others (omega arith))
      (λ f. follows _ (idle-suffices s x.core (gathers (not-false (sound s (lengths_of x)) f))))

-- ---- new, recover

module _ (u : Setup) (x : Lent) where
  abbrev Starts : Started → Type 0
  Starts d = Suffices u (length x.core.out) (length x.core.reps) (code_of d.answer)

  pub create-call-suffices : Enough u x (create_call u x)
  unfolding create_call cleared create_step
  create-call-suffices = split Starts _ _ _ (λ _. others (omega arith)) (λ _. done.suffices)

  pub recover-call-suffices : (v : View) (nonce : ℕ) → Enough u x (recover_call u v nonce x)
  unfolding recover_call cleared recover_step
  recover-call-suffices v nonce =
      let t = new_in u Recovering v nonce in
      split Starts (not (creatable u (lengths_of x))) _ _ (λ _. others (omega arith)) λ f.
      split Starts _ _ _ (λ l. (no_room (recoveries_length t) (recoveries-fit t (creatable-is u (lengths_of x) _ refl f).0) l).suffices)
      (λ _. done.suffices)
