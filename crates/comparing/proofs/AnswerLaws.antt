-- Each way out of the comparisons. Assumes nothing.
use Rattle.std.proofs.Common.{Some, None, ◌≡◌, ℕ, ◌-◌, ◌<◌, ◌≤◌, Bool, true, false, not, eqb, List, length, take, drop, arith, eq-eqb, ne_eqb, le-leb}
use borrow.Author.Tests.{lt-leb, not-true, not-false}
use Rattle.numbers.specs.Words.{when◌then◌else◌, ◌and◌, ◌or◌}
use Rattle.state.specs.declared.Replica.{Replica}
use Rattle.state.specs.declared.Returned.{Returned}
use Rattle.comparing.specs.Text.{number_at, word_at, run_text, same_bytes}
use Rattle.comparing.specs.Areas.{left_alone}
use Rattle.comparing.specs.Fields.{reports_digest}
use Rattle.comparing.specs.Answers.{same_front, answer_differs, touched_behind, further_differs}
use Rattle.state.specs.Answers.{code_of, messages_written, replies_written}
use Rattle.comparing.specs.declared.answer.AnswerPart.TheVariants.{Number, Messages, Replies}
use Rattle.comparing.specs.declared.answer.FurtherPart.TheVariants.{Nonce, Reports}

module _ (line : List ℕ) (k n : ℕ) (area : List ℕ) where
  pub front-short : length area < n → false ≡ same_front line k n area
  unfolding same_front ◌and◌
  front-short h = rw (lt-leb n (length area) h)

  pub front_same : n ≤ length area → same_bytes (word_at k line) (run_text (take (n - 0) (drop 0 area))) ≡ same_front line k n area
  unfolding same_front ◌and◌
  front_same h = let z : n - 0 ≡ n = omega arith in rw (z, le-leb n (length area) h)

module _ (a : Returned) (line out reps : List ℕ) (code : ℕ) (b d : Bool) (p : code ≡ number_at false 1 line) where
  pub code-differs : (code_of a ≡ code → ⊥) → Some Number ≡ answer_differs a line out reps
  unfolding answer_differs when◌then◌else◌
  code-differs n = rw (← p, ne_eqb (code_of a) code n)

  module _ (e : code_of a ≡ code) (q : b ≡ same_front line 2 (messages_written a) out) where
    pub messages-differ : not b ≡ true → Some Messages ≡ answer_differs a line out reps
    unfolding answer_differs when◌then◌else◌
    messages-differ n = rw (← p, eq-eqb (code_of a) code e, ← q, not-true b n)

    module _ (f : not b ≡ false) (r : d ≡ same_front line 3 (replies_written a) reps) where
      pub replies-differ : not d ≡ true → Some Replies ≡ answer_differs a line out reps
      unfolding answer_differs when◌then◌else◌
      replies-differ n = rw (← p, eq-eqb (code_of a) code e, ← q, not-false b f, ← r, not-true d n)

      pub answer-same : not d ≡ false → None ≡ answer_differs a line out reps
      unfolding answer_differs when◌then◌else◌
      answer-same n = rw (← p, eq-eqb (code_of a) code e, ← q, not-false b f, ← r, not-false d n)

module _ (a : Returned) (out : List ℕ) (messages : ℕ) (reps : List ℕ) (replies : ℕ) (b d : Bool) (p : b ≡ left_alone (messages_written a) messages out) where
  pub touched-messages : not b ≡ true → Some Messages ≡ touched_behind a out messages reps replies
  unfolding touched_behind when◌then◌else◌
  touched-messages n = rw (← p, not-true b n)

  module _ (f : not b ≡ false) (q : d ≡ left_alone (replies_written a) replies reps) where
    pub touched-replies : not d ≡ true → Some Replies ≡ touched_behind a out messages reps replies
    unfolding touched_behind when◌then◌else◌
    touched-replies n = rw (← p, not-false b f, ← q, not-true d n)

    pub touched_none : not d ≡ false → None ≡ touched_behind a out messages reps replies
    unfolding touched_behind when◌then◌else◌
    touched_none n = rw (← p, not-false b f, ← q, not-false d n)

module _ (s : Replica) (line mem : List ℕ) (x y z : ℕ) (p : x ≡ number_at false 1 line) where
  pub nonce-differs : (x ≡ s.nonce → ⊥) → Some Nonce ≡ further_differs s line mem
  unfolding further_differs when◌then◌else◌
  nonce-differs n = rw (← p, ne_eqb x s.nonce n)

  module _ (e : x ≡ s.nonce) (q : y ≡ number_at true 2 line) (r : z ≡ reports_digest s mem) where
    pub reports-differ : (y ≡ z → ⊥) → Some Reports ≡ further_differs s line mem
    unfolding further_differs when◌then◌else◌
    reports-differ n = rw (← p, eq-eqb x s.nonce e, ← q, ← r, ne_eqb y z n)

    pub further_same : y ≡ z → None ≡ further_differs s line mem
    unfolding further_differs when◌then◌else◌
    further_same f = rw (← p, eq-eqb x s.nonce e, ← q, ← r, eq-eqb y z f)
