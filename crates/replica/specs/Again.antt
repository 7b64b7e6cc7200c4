-- What order 6 of document 02 gives the desk, in the bytes of the outside calls: a request whose entry is applied and is its client's latest in the log
-- is answered when it is asked again of a Normal primary. Assumes nothing.
use Rattle.std.specs.Prelude.{◌≡◌, List, ℕ, ◌≤◌, length}
use Rattle.numbers.specs.Numbers.{Bytes, over}
use Rattle.entries.specs.declared.Entry.{Entry}
use Rattle.state.specs.declared.Replica.{Replica}
use Rattle.model.specs.Sending.{reply_bytes}
use Rattle.safety.specs.Again.{AskedAgain, reply_again}
use Rattle.replica.specs.Lent.{Lent, Called}
use Rattle.replica.specs.Meaning.{Owned, meaning_of}
use Rattle.replica.specs.Promise.{MessagePromise}
use Rattle.state.specs.Answers.{code_of, messages_written, replies_written}

-- the reply to the entry at place i, 36 bytes: the view as it is now, the outcome and total of the time when the entry was applied
abbrev pub again_bytes : Replica → Lent → (applied : List Entry) → Entry → (i : ℕ) → List ℕ
again_bytes s x applied e i = reply_bytes (reply_again s.setup (meaning_of s x applied) e i)

-- What the call leaves: that reply over the front of its area, no message, and a state and memory that mean what they meant.
pub record WroteAgain (s : Replica) (x : Lent) (applied : List Entry) (e : Entry) (i : ℕ) (d : Called) : Type 0 where
  pub code : code_of d.answer ≡ 0
  pub messages : messages_written d.answer ≡ 0
  pub out : d.lent.core.out ≡ x.core.out
  pub replies : replies_written d.answer ≡ 36
  pub reps : d.lent.core.reps ≡ over (again_bytes s x applied e i) x.core.reps
  pub same : meaning_of d.answer.state d.lent applied ≡ meaning_of s x applied

-- so it is of every frame that asks again, where the reply has room
abbrev pub AnswersIn : Replica → Lent → (applied : List Entry) → Type 0
AnswersIn s x applied =
    (frame : List ℕ) (d : Called) (e : Entry) (i : ℕ) → Bytes frame → Owned x → MessagePromise s frame x d
    → AskedAgain s.setup (meaning_of s x applied) frame e i → 36 ≤ length x.core.reps → WroteAgain s x applied e i d
