-- No outside call leaves anything in the area for replies but Replies with outcomes of 1 to 6, with their exact count, for any state, any frame and any
-- memory. Assumes nothing.
use Rattle.std.specs.Prelude.{Result, Ok, Err}
use mathlib.Core.Path.{◌≡◌, refl}
use mathlib.Core.Bool.{true, not}
use mathlib.Core.List.{List}
use Prim.Native.Nat.{ℕ}
use lib.ListN.{length}
use borrow.Author.Tests.{not-false}
use Rattle.numbers.specs.declared.View.{View}
use Rattle.numbers.proofs.WordLaws.{split}
use Rattle.config.specs.declared.Setup.{Setup}
use Rattle.frames.specs.Refusals.{check_frame}
use Rattle.frames.specs.declared.Refusal.{Refusal}
use Rattle.state.specs.declared.Replica.{Replica}
use Rattle.steps.specs.Recorded.{Recorded, Gathering}
use Rattle.steps.specs.Replying.{Replying}
use Rattle.steps.proofs.ReplyLaws.{silent}
use Rattle.steps.proofs.SilentSteps.{still}
use Rattle.handlers.proofs.ReplyStays.{message-replies, idle-replies}
use Rattle.outside.specs.Sound.{sound}
use Rattle.outside.specs.Calls.{checked_of}
use Rattle.outside.specs.Creation.{Started, create_step, recover_step}
use Rattle.outside.proofs.SoundLaws.{sound-is}
use Rattle.replica.specs.Calls.{Tabled, followed_by, following, checked_call, message_call, idle_call, cleared, create_call, recover_call}
use Rattle.replica.specs.Lent.{Lent, Called, lengths_of}
use Rattle.replica.proofs.FoundLift.{latest-outcome}
use Rattle.state.specs.Answers.{replies_written}
use Rattle.frames.specs.declared.Message.{Message}

-- a call that is lent x
abbrev pub Answers : Lent → Called → Type 0
Answers x d = Replying x.core.reps d.lent.core.reps (replies_written d.answer)

module _ (s : Replica) (x : Lent) where
  -- the table changes nothing of the answer, nor of the area
  follows : (d : Recorded) → Replying x.core.reps d.memory.reps (replies_written d.answer) → Answers x (following s x.table d)
  unfolding following followed_by
  follows d h = split (λ (t : Tabled). Replying x.core.reps d.memory.reps (replies_written t.answer)) _ _ _ (λ _. h) (λ _. h)

  gathers : sound s (lengths_of x) ≡ true → Gathering s x.core
  gathers p = (sound-is s x.core (length x.table) p).gathering

  -- ---- on_message

  module _ (frame : List ℕ) where
    checked-replies : sound s (lengths_of x) ≡ true → (j : Result Message Refusal) → check_frame s.setup frame ≡ j → Answers x (checked_call j s frame x)
    unfolding checked_call
    checked-replies p (Err k) e = silent
    checked-replies p (Ok m) e = follows _ (message-replies s x.core (gathers p) m _ frame e (λ r o q. latest-outcome m s.setup.room x.table q))

    pub message-call-replies : Answers x (message_call s frame x)
    unfolding message_call checked_of checked_call
    message-call-replies =
        split (λ (j : Result Message Refusal). Answers x (checked_call j s frame x)) (not (sound s (lengths_of x))) _ _ (λ _. silent)
        (λ f. checked-replies (not-false (sound s (lengths_of x)) f) (check_frame s.setup frame) refl)

  -- ---- on_idle

  pub idle-call-replies : Answers x (idle_call s x)
  unfolding idle_call
  idle-call-replies =
      split (Answers x) (not (sound s (lengths_of x))) _ _ (λ _. silent)
      (λ f. follows _ (idle-replies s x.core (gathers (not-false (sound s (lengths_of x)) f))))

-- ---- new, recover: none

abbrev MuteStart : Started → Type 0
MuteStart d = replies_written d.answer ≡ 0

module _ (u : Setup) (x : Lent) where
  pub create-call-replies : Answers x (create_call u x)
  unfolding create_call cleared create_step
  create-call-replies = still _ (split MuteStart _ _ _ (λ _. refl) (λ _. refl))

  pub recover-call-replies : (v : View) (nonce : ℕ) → Answers x (recover_call u v nonce x)
  unfolding recover_call cleared recover_step
  recover-call-replies v nonce = still _ (split MuteStart _ _ _ (λ _. refl) (λ _. split MuteStart _ _ _ (λ _. refl) (λ _. refl)))
