-- Refusal 2 of a frame comes with the offset of its first wrong byte, every other answer with 0: for any state, any frame and any memory. No handler answers 2.
--     answer-points      an answer whose number isn't 2
--     message-points     what a call that gives the definition's answer points to
-- Assumes nothing.
use Rattle.std.specs.Prelude.{Result, Ok, Err}
use mathlib.Core.Path.{◌≡◌, refl, sym, subst}
use mathlib.Core.List.{List}
use Prim.Native.Nat.{ℕ}
use lib.ListN.{length}
use Rattle.numbers.proofs.WordLaws.{split}
use Rattle.offsets.specs.Offsets.{Points}
use Rattle.frames.specs.Kinds.{well_formed}
use Rattle.frames.specs.Numbered.{checked_number, checked_offset}
use Rattle.frames.specs.declared.Refusal.{Refusal}
use Rattle.frames.proofs.PointLaws.{other-points}
use Rattle.state.specs.declared.Replica.{Replica}
use Rattle.steps.specs.Recorded.{Recorded}
use Rattle.handlers.proofs.Suffice.{message-suffices}
use Rattle.outside.specs.Calls.{checked_of}
use Rattle.outside.proofs.SoundLaws.{sound-is}
use Rattle.outside.proofs.CallLaws.{passed_is}
use Rattle.outside.proofs.CheckedLaws.{call-points}
use Rattle.replica.specs.Calls.{Tabled, followed_by, following, checked_call, message_call}
use Rattle.replica.specs.Lent.{Lent, Called, lengths_of}
use Rattle.state.specs.Answers.{code_of, offset_of_answer, outcome_code, offset_in_outcome}
use Rattle.state.specs.declared.Output.{Output}
use Rattle.state.specs.declared.Returned.{Returned}
use Rattle.frames.specs.declared.Refusal.TheVariants.{OutOfRange, Malformed, NotForUs, PastRoom, PastLog, NotRising, Uncommits, LastView, NoRoomForMessages, NoRoomForReplies}
use Rattle.frames.specs.declared.Message.{Message}

-- where an answer points to
abbrev pub AnswerPoints : (frame : List ℕ) → Returned → Type 0
AnswerPoints frame a = Points well_formed frame (code_of a) (offset_of_answer a)

-- of one whose number isn't 2
pub answer-points : (frame : List ℕ) (o : Result Output Refusal) → (outcome_code o ≡ 2 → ⊥) → Points well_formed frame (outcome_code o) (offset_in_outcome o)
answer-points frame (Ok d) h = other-points frame 0 h
answer-points frame (Err OutOfRange) h = other-points frame 1 h
answer-points frame (Err (Malformed p)) h = absurd (h refl)
answer-points frame (Err NotForUs) h = other-points frame 3 h
answer-points frame (Err PastRoom) h = other-points frame 4 h
answer-points frame (Err PastLog) h = other-points frame 5 h
answer-points frame (Err NotRising) h = other-points frame 6 h
answer-points frame (Err Uncommits) h = other-points frame 7 h
answer-points frame (Err LastView) h = other-points frame 8 h
answer-points frame (Err NoRoomForMessages) h = other-points frame 9 h
answer-points frame (Err NoRoomForReplies) h = other-points frame 10 h

module _ (s : Replica) (frame : List ℕ) (x : Lent) where
  -- the table changes nothing of the answer
  followed : (d : Recorded) → (code_of d.answer ≡ 2 → ⊥) → AnswerPoints frame (following s x.table d).answer
  unfolding following followed_by
  followed d h =
      let p = answer-points frame d.answer.outcome h in
      split (λ (t : Tabled). AnswerPoints frame t.answer) _ _ _ (λ _. p) (λ _. p)

  checked-points : (j : Result Message Refusal) → j ≡ checked_of s (lengths_of x) frame → AnswerPoints frame (checked_call j s frame x).answer
  unfolding checked_call
  checked-points (Err k) e =
      subst (λ (j : Result Message Refusal). Points well_formed frame (checked_number j).number (checked_offset j)) (sym e) (call-points s (lengths_of x) frame)
  checked-points (Ok m) e =
      let p = passed_is s (lengths_of x) frame m (sym e) in
      let g = (sound-is s x.core (length x.table) p.0).gathering in
      followed _ (message-suffices s x.core g m _ frame p.1).formed

  pub message-points : (j : Result Message Refusal) → j ≡ checked_of s (lengths_of x) frame → {d : Called} → d ≡ message_call s frame x → AnswerPoints frame d.answer
  unfolding message_call
  message-points j e h = rw (h, ← e) (checked-points j e)
