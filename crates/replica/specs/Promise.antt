-- What the outside calls promise: `exact`, for any state and any memory; `meaning`, the model's answer, for memory that calls produced; `keeps`, that
-- it is such memory again. From `exact` any two permitted answers are equal. Assumes nothing.
use Rattle.std.specs.Prelude.{◌≡◌, true, List, [], ℕ, length, Result, Ok}
use Rattle.numbers.specs.Numbers.{Bytes}
use Rattle.numbers.specs.declared.View.{View}
use Rattle.entries.specs.declared.Entry.{Entry}
use Rattle.config.specs.declared.Setup.{Setup}
use Rattle.state.specs.declared.Replica.{Replica}
use Rattle.model.specs.Steps.{create, recover}
use Rattle.safety.specs.Money.{sum}
use Rattle.outside.specs.Sound.{lengths_ok, no_replica}
use Rattle.outside.specs.Takings.{takings_call}
use Rattle.frames.specs.declared.Refusal.{Refusal}
use Rattle.replica.specs.Calls.{message_call, idle_call, create_call, recover_call}
use Rattle.replica.specs.Lent.{Lent, Called, lengths_of}
use Rattle.replica.specs.Meaning.{meaning_of, Owned, Kept, Means, frame_answer, tick_answer, applied_after}
use Rattle.state.specs.Answers.{code_of}

-- on_message
pub record MessagePromise (s : Replica) (frame : List ℕ) (x : Lent) (d : Called) : Type 0 where
  pub exact : d ≡ message_call s frame x
  pub meaning : (applied : List Entry) → Bytes frame → Owned x → Kept s x applied → Means s.setup s x d (frame_answer s frame x applied)
  pub keeps :
      (applied : List Entry) → Bytes frame → Owned x → Kept s x applied
      → Kept d.answer.state d.lent (applied_after (meaning_of s x applied) (frame_answer s frame x applied))

-- on_idle
pub record IdlePromise (s : Replica) (x : Lent) (d : Called) : Type 0 where
  pub exact : d ≡ idle_call s x
  pub meaning : (applied : List Entry) → Owned x → Kept s x applied → Means s.setup s x d (tick_answer s x applied)
  pub keeps :
      (applied : List Entry) → Owned x → Kept s x applied
      → Kept d.answer.state d.lent (applied_after (meaning_of s x applied) (tick_answer s x applied))

-- new; the model has no buffers, whose lengths are refusal 1 too
pub record CreatePromise (u : Setup) (x : Lent) (d : Called) : Type 0 where
  pub exact : d ≡ create_call u x
  pub meaning : lengths_ok u (lengths_of x) ≡ true → Means u no_replica x d (create u)
  pub keeps : code_of d.answer ≡ 0 → Kept d.answer.state d.lent []

-- recover
pub record RecoverPromise (u : Setup) (v : View) (nonce : ℕ) (x : Lent) (d : Called) : Type 0 where
  pub exact : d ≡ recover_call u v nonce x
  pub meaning : lengths_ok u (lengths_of x) ≡ true → Means u no_replica x d (recover u v.0 nonce (length x.core.out))
  pub keeps : code_of d.answer ≡ 0 → Kept d.answer.state d.lent []

-- takings: of memory that calls produced, the full addition of its totals
pub record TakingsPromise (s : Replica) (r : Result ℕ Refusal) : Type 0 where
  pub exact : r ≡ takings_call s
  pub meaning : (x : Lent) (applied : List Entry) → Kept s x applied → r ≡ Ok (sum (meaning_of s x applied).book.totals)
