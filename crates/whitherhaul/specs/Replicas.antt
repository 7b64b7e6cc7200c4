-- The replica's calls at the C boundary: the state lies in a lent run, and a call that isn't refused leaves its next state there. A run that holds no state is
-- refused by 1, and a refused call leaves that run and all else as it was, with counts of 0. Assumes nothing.
use Rattle.std.specs.Prelude.{◌≡◌, Bool, true, false, not, List, [], ◌∷◌, ℕ, eqb, ltb, length, Result, Ok, Err}
use Rattle.numbers.specs.Words.{when◌then◌else◌}
use Rattle.numbers.specs.declared.View.{View}
use Rattle.config.specs.declared.Setup.{Setup}
use Rattle.state.specs.declared.Returned.{Returned}
use Rattle.state.specs.declared.Replica.{Replica}
use Rattle.replica.specs.Calls.{message_call, idle_call, create_call, recover_call}
use Rattle.replica.specs.Lent.{Lent, Called}
use Rattle.outside.specs.Takings.{takings_call}
use Rattle.frames.specs.declared.Refusal.{Refusal}
use Rattle.replica.specs.Promise.{MessagePromise, IdlePromise, CreatePromise, RecoverPromise, TakingsPromise}
use Rattle.state_bytes.specs.Layout.{state_of, encode_state, state_ok, HoldsState}
use Rattle.state.specs.Answers.{code_of, messages_written, replies_written}
use Rattle.frames.specs.Refusals.{number_of}

-- what a call returns and leaves: its number, the counts of message and reply bytes, the state run, everything else that was lent
pub record Ran : Type 0 where
  pub code : ℕ
  pub counts : List ℕ
  pub state : List ℕ
  pub lent : Lent

abbrev pub ran : (code : ℕ) (counts state : List ℕ) → Lent → Ran
ran k counts state x = record { code = k; counts = counts; state = state; lent = x }

-- a call that returns a number and counts and leaves this state run, on this and leaving that, keeps a promise
abbrev pub Ends : (promise : Lent → Ran → Type 0) (code : ℕ) (counts state : List ℕ) → (before after : Lent) → Type 0
Ends promise code counts state before after = promise before (ran code counts state after)

-- the state run after a call
unfoldable pub kept_state : Returned → (state : List ℕ) → List ℕ
kept_state a state = when eqb (code_of a) 0 then encode_state a.state else state

-- what a call of the replica leaves here
abbrev pub leaves : (state : List ℕ) → Called → Ran
leaves state d =
    ran (code_of d.answer) (messages_written d.answer ∷ replies_written d.answer ∷ []) (kept_state d.answer state) d.lent

-- refused by 1 before any call of the replica
abbrev pub no_state : (state : List ℕ) → Lent → Ran
no_state state x = ran 1 (0 ∷ 0 ∷ []) state x

-- on_message, on_idle
unfoldable pub message_run : (state frame : List ℕ) → Lent → Ran
message_run state frame x =
    when not (state_ok state) then no_state state x else
    leaves state (message_call (state_of state) frame x)

unfoldable pub idle_run : (state : List ℕ) → Lent → Ran
idle_run state x =
    when not (state_ok state) then no_state state x else
    leaves state (idle_call (state_of state) x)

-- new, recover: what the state run held doesn't matter, only its length
unfoldable pub create_run : Setup → (state : List ℕ) → Lent → Ran
create_run u state x =
    when not (eqb (length state) 154) then no_state state x else
    leaves state (create_call u x)

unfoldable pub recover_run : Setup → View → (nonce : ℕ) → (state : List ℕ) → Lent → Ran
recover_run u v k state x =
    when not (eqb (length state) 154) then no_state state x else
    leaves state (recover_call u v k x)

-- what is told of the takings: a refusal's number or 0, and the sum, 0 where it is refused
pub record SumTold : Type 0 where
  pub code : ℕ
  pub cents : ℕ

abbrev pub told_as : (code cents : ℕ) → SumTold
told_as k c = record { code = k; cents = c }

abbrev pub sum_told : Result ℕ Refusal → SumTold
sum_told (Ok sum) = told_as 0 sum
sum_told (Err k) = told_as (number_of k) 0

-- takings: of the state that the run holds; it is only read
unfoldable pub takings_run : (state : List ℕ) → SumTold
takings_run state = when state_ok state then sum_told (takings_call (state_of state)) else told_as 1 0

-- The run holds the state that the call answered: so the next call at the boundary is the next call of the replica.
pub record StateHeld (state : List ℕ) (s : Replica) : Type 0 where
  pub ok : state_ok state ≡ true
  pub back : state_of state ≡ s

-- What each call promises: `exact`, every number and byte for any memory; `next`, that the state is handed on; `call`, what the replica's own call promises.
pub record MessageRan (state frame : List ℕ) (x : Lent) (d : Ran) : Type 0 where
  pub exact : d ≡ message_run state frame x
  pub next : state_ok state ≡ true → StateHeld d.state (message_call (state_of state) frame x).answer.state
  pub call : MessagePromise (state_of state) frame x (message_call (state_of state) frame x)

pub record IdleRan (state : List ℕ) (x : Lent) (d : Ran) : Type 0 where
  pub exact : d ≡ idle_run state x
  pub next : state_ok state ≡ true → StateHeld d.state (idle_call (state_of state) x).answer.state
  pub call : IdlePromise (state_of state) x (idle_call (state_of state) x)

pub record CreateRan (u : Setup) (state : List ℕ) (x : Lent) (d : Ran) : Type 0 where
  pub exact : d ≡ create_run u state x
  pub next : d.code ≡ 0 → StateHeld d.state (create_call u x).answer.state
  pub call : CreatePromise u x (create_call u x)

pub record RecoverRan (u : Setup) (v : View) (nonce : ℕ) (state : List ℕ) (x : Lent) (d : Ran) : Type 0 where
  pub exact : d ≡ recover_run u v nonce state x
  pub next : d.code ≡ 0 → StateHeld d.state (recover_call u v nonce x).answer.state
  pub call : RecoverPromise u v nonce x (recover_call u v nonce x)

pub record TakingsRan (state : List ℕ) (r : SumTold) : Type 0 where
  pub exact : r ≡ takings_run state
  pub call : TakingsPromise (state_of state) (takings_call (state_of state))

-- whether a frame may be a usual one: it names a kind, and no report is there
unfoldable pub may_be_usual : (quiet : Bool) (frame : List ℕ) → Bool
may_be_usual quiet frame = when ltb (length frame) 7 then false else quiet

-- what the state run holds after an answer
pub record KeptIn (a : Returned) (before after : List ℕ) (code : ℕ) : Type 0 where
  pub number : code ≡ code_of a
  pub bytes : after ≡ kept_state a before
  pub holds : code_of a ≡ 0 → HoldsState a.state after
