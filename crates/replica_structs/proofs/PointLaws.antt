-- Refusal 2 of a frame comes with the offset of its first wrong byte, every other answer with 0: what the core says of what it was handed. Assumes nothing.
use Rattle.std.specs.Prelude.{Result, Ok, Err, ◌≡◌, ℕ, List}
use mathlib.Core.Path.{refl, sym, ap, subst, ◌∙◌}
use Rattle.offsets.specs.Offsets.{Points}
use Rattle.frames.specs.Kinds.{well_formed}
use Rattle.frames.specs.Numbered.{checked_number, checked_offset}
use Rattle.frames.specs.declared.Refusal.{Refusal}
use Rattle.client_table.specs.declared.Latest.{Latest}
use Rattle.state.specs.Answers.{offset_of_answer}
use Rattle.state.specs.declared.Returned.{Returned}
use Rattle.state.specs.declared.Replica.{Replica}
use Rattle.book.specs.Memory.{Memory}
use Rattle.steps.specs.Recorded.{Recorded, recorded}
use Rattle.handlers.proofs.Suffice.{message-suffices}
use Rattle.outside.specs.Calls.{checked_of}
use Rattle.outside.proofs.CheckedLaws.{call-points}
use Rattle.replica_structs.specs.Core.{lengths_in, Passes, checked_core}
use Rattle.replica_structs.proofs.CoreLaws.{passes}
use Rattle.replica.proofs.PointLaws.{AnswerPoints, answer-points}
use Rattle.frames.specs.declared.Message.{Message}

module _ (s : Replica) (table : ℕ) (latest : Latest) (frame : List ℕ) (m : Memory) where
  core-points : (z : Result Message Refusal) → z ≡ checked_of s (lengths_in m table) frame → AnswerPoints frame (checked_core z s latest frame m).answer
  unfolding checked_core
  core-points (Err k) e =
      subst (λ (j : Result Message Refusal). Points well_formed frame (checked_number j).number (checked_offset j)) (sym e) (call-points s (lengths_in m table) frame)
  core-points (Ok y) e =
      let p = passes (Ok y) s table frame m e y (λ i. Ok y) in
      answer-points frame _ (message-suffices s m p.0 y _ frame p.1).formed

  -- what it left
  pub rows-points : (z : Result Message Refusal) → z ≡ checked_of s (lengths_in m table) frame → (a : Returned) (left : Memory) → recorded a left ≡ checked_core z s latest frame m
      → AnswerPoints frame a
  rows-points z e a left h = rw (ap (λ (d : Recorded). d.answer) h) (core-points z e)

-- by what refusals 1 to 6 say alone
module _ (s : Replica) (latest : Latest) (frame : List ℕ) (m : Memory) where
  passed-offset : (z : Result Message Refusal) → Passes z s frame m → offset_of_answer (checked_core z s latest frame m).answer ≡ checked_offset z
  unfolding checked_core
  passed-offset (Err k) p = refl
  passed-offset (Ok y) p =
      let q = p y refl in
      (answer-points frame _ (message-suffices s m q.0 y _ frame q.1).formed).none (message-suffices s m q.0 y _ frame q.1).formed

  pub core-offset : (z : Result Message Refusal) (a : Returned) → Passes z s frame m → {left : Memory} → recorded a left ≡ checked_core z s latest frame m
      → offset_of_answer a ≡ checked_offset z
  core-offset z a p e = ap (λ (d : Recorded). offset_of_answer d.answer) e ∙ passed-offset z p
