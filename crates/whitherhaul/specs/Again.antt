-- What order 6 of document 02 gives the desk, at the C boundary: a request whose entry is applied and is its client's latest in the log is answered when
-- it is asked again of a Normal primary. Assumes nothing.
use Rattle.std.specs.Prelude.{◌≡◌, List, [], ◌∷◌, ℕ, ◌≤◌, length}
use Rattle.numbers.specs.Numbers.{Bytes, over}
use Rattle.entries.specs.declared.Entry.{Entry}
use Rattle.state_bytes.specs.Layout.{state_of}
use Rattle.safety.specs.Again.{AskedAgain}
use Rattle.replica.specs.Lent.{Lent}
use Rattle.replica.specs.Meaning.{Owned, meaning_of}
use Rattle.replica.specs.Again.{again_bytes}
use Rattle.whitherhaul.specs.Replicas.{Ran, MessageRan}

-- What the call leaves: the reply over the front of its area, no message, and a state run and memory that mean what they meant.
pub record RunWroteAgain (state : List ℕ) (x : Lent) (applied : List Entry) (e : Entry) (i : ℕ) (d : Ran) : Type 0 where
  pub code : d.code ≡ 0
  pub counts : d.counts ≡ 0 ∷ 36 ∷ []
  pub out : d.lent.core.out ≡ x.core.out
  pub reps : d.lent.core.reps ≡ over (again_bytes (state_of state) x applied e i) x.core.reps
  pub same : meaning_of (state_of d.state) d.lent applied ≡ meaning_of (state_of state) x applied

-- so it is of every frame that asks again, where the reply has room
abbrev pub RunAnswersIn : (state : List ℕ) → Lent → (applied : List Entry) → Type 0
RunAnswersIn state x applied =
    (frame : List ℕ) (d : Ran) (e : Entry) (i : ℕ) → Bytes frame → Owned x → MessageRan state frame x d
    → AskedAgain (state_of state).setup (meaning_of (state_of state) x applied) frame e i → 36 ≤ length x.core.reps
    → RunWroteAgain state x applied e i d
