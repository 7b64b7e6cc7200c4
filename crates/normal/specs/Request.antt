-- on_request, on the state by value and the bytes of the lent runs; what the table holds of the client is handed in by value. A new number
-- rises by the table alone, so that refusal 6 has no test here. Assumes nothing.
use Rattle.std.specs.Prelude.{◌≡◌, true, false, not, List, [], ℕ, ◌+◌, ◌-◌, ◌*◌, ◌≤◌, ltb, leb, length, set}
use Rattle.numbers.specs.Words.{when◌then◌else◌}
use Rattle.numbers.specs.Numbers.{over}
use Rattle.numbers.specs.declared.Op.{Op}
use Rattle.entries.specs.Entries.{encode_entry}
use Rattle.entries.specs.Places.{ack_place}
use Rattle.entries.specs.declared.Entry.{Entry}
use Rattle.config.specs.Setup.{setup_ok}
use Rattle.config.specs.Replicas.{with_member}
use Rattle.fees.specs.declared.Outcome.{Outcome}
use Rattle.frames.specs.declared.Message.{Message}
use Rattle.frames.specs.declared.Message.TheVariants.{Prepare}
use Rattle.writers.specs.Writers.{to_others}
use Rattle.client_table.specs.Latest.{is_new}
use Rattle.client_table.specs.declared.Latest.{Latest}
use Rattle.client_table.specs.declared.Latest.TheVariants as Row
use Rattle.book.specs.Log.{with_entries}
use Rattle.book.specs.Runs.{reply_to}
use Rattle.state.specs.State.{leads, with_log}
use Rattle.state.specs.Statuses.{is_normal}
use Rattle.state.specs.Answers.{refusal, completed, quiet}
use Rattle.state.specs.Lengths.{log_length, acks_length}
use Rattle.state.specs.declared.Returned.{Returned}
use Rattle.state.specs.declared.Replica.{Replica}
use Rattle.normal.specs.declared.request.RequestVerdict.{RequestVerdict}
use Rattle.normal.specs.declared.request.RequestVerdict.TheVariants.{Nothing, Resend, Refuse, Append}
use Rattle.steps.specs.Recorded.{Recorded, recorded}
use Rattle.book.specs.Memory.{Memory}
use Rattle.frames.specs.declared.Refusal.TheVariants.{PastRoom, NoRoomForMessages, NoRoomForReplies}

-- what refusal 1 leaves, of log and acks
pub record Ready (s : Replica) (log acks : ℕ) : Type 0 where
  pub sized : setup_ok s.setup ≡ true
  pub commit-le : s.commit.0 ≤ s.op.0
  pub op_le : s.op.0 ≤ s.setup.room
  pub log-long : log ≡ log_length s.setup
  pub acks-long : acks ≡ acks_length s.setup

-- what a Request leaves: the answer, log, acks, and the two areas
pub record Served : Type 0 where
  pub answer : Returned
  pub log : List ℕ
  pub acks : List ℕ
  pub out : List ℕ
  pub reps : List ℕ

abbrev pub served : Returned → (log acks out reps : List ℕ) → Served
served a log acks out reps = record { answer = a; log = log; acks = acks; out = out; reps = reps }

-- what a Request leaves, beside what it is not lent
abbrev pub of_served : Memory → Served → Recorded
of_served m d =
    recorded
    d.answer
    (record {
      runs = record { log = d.log; money = m.runs.money };
      acks = d.acks;
      stored = m.stored;
      out = d.out;
      reps = d.reps;
    })

-- one that was appended leaves the area for replies alone
pub record Took : Type 0 where
  pub answer : Returned
  pub log : List ℕ
  pub acks : List ℕ
  pub out : List ℕ

abbrev pub took : Returned → (log acks out : List ℕ) → Took
took a log acks out = record { answer = a; log = log; acks = acks; out = out }

-- one that is answered again leaves all but that area alone
pub record Answered : Type 0 where
  pub answer : Returned
  pub reps : List ℕ

abbrev pub answered : Returned → List ℕ → Answered
answered a reps = record { answer = a; reps = reps }

-- the Prepares of an op, to all others
abbrev pub sends_of : Replica → ℕ
sends_of s = 51 * (s.setup.n - 1)

-- no new number, and the reply of the client's latest request is kept: nothing for an older one, else the reply again, or refusal 10
unfoldable pub again_verdict : Entry → (request : ℕ) → Outcome → (room : ℕ) → RequestVerdict
again_verdict e request reply room =
    when ltb e.request request then Nothing else
    when ltb room 36 then Refuse NoRoomForReplies else
    Resend reply

-- no new number: nothing where no reply is kept
unfoldable pub known_verdict : Entry → Latest → ℕ → RequestVerdict
known_verdict e Row.Nothing room = Nothing
known_verdict e (Row.Waiting request) room = Nothing
known_verdict e (Row.Answered request reply) room = again_verdict e request reply room

-- a new number: refusal 4 where the log has L entries, then 9
unfoldable pub new_verdict : Replica → ℕ → RequestVerdict
new_verdict s out =
    when leb s.setup.room s.op.0 then Refuse PastRoom else
    when ltb out (sends_of s) then Refuse NoRoomForMessages else
    Append

unfoldable pub client_verdict : Replica → Entry → Latest → (out reps : ℕ) → RequestVerdict
client_verdict s e latest out reps =
    when is_new latest e.request then new_verdict s out else
    known_verdict e latest reps

-- only a Normal primary looks at a Request; out and reps are the sizes of the areas
unfoldable pub request_verdict : Replica → Entry → Latest → (out reps : ℕ) → RequestVerdict
request_verdict s e latest out reps =
    when not (leads s) then Nothing else
    when not (is_normal s.status) then Nothing else
    client_verdict s e latest out reps

-- the op number of the next entry
abbrev pub next_op : Replica → Op
next_op s = record { 0 = s.op.0 + 1 }

-- its Prepare
abbrev pub prepare_of : Replica → Entry → Message
prepare_of s e = Prepare s.view (next_op s) s.commit e

-- appended, acknowledged by ourselves, and sent to all others
unfoldable pub accepted : Replica → Entry → (log acks out : List ℕ) → Took
accepted s e log acks out =
    took
    (completed (with_log s (next_op s) s.commit) (sends_of s) 0 false)
    (with_entries s.op.0 (encode_entry e) log)
    (set acks (ack_place s.op.0) (with_member 0 s.setup.id))
    (over (to_others s.setup.n s.setup.id (prepare_of s e) []) out)

-- the reply again, with the current view
unfoldable pub resent : Replica → Entry → Outcome → List ℕ → Answered
resent s e o reps = answered (completed s 0 36 false) (over (reply_to s.view e o) reps)

abbrev of_took : List ℕ → Took → Served
of_took reps d = served d.answer d.log d.acks d.out reps

abbrev of_answered : (log acks out : List ℕ) → Answered → Served
of_answered log acks out d = served d.answer log acks out d.reps

unfoldable pub by_call : RequestVerdict → Replica → Entry → (log acks out reps : List ℕ) → Served
by_call Nothing s e log acks out reps = served (quiet s) log acks out reps
by_call (Resend reply) s e log acks out reps = of_answered log acks out (resent s e reply reps)
by_call (Refuse k) s e log acks out reps = served (refusal k s) log acks out reps
by_call Append s e log acks out reps = of_took reps (accepted s e log acks out)

-- on_request
unfoldable pub request_step : Replica → Entry → Latest → (log acks out reps : List ℕ) → Served
request_step s e latest log acks out reps = by_call (request_verdict s e latest (length out) (length reps)) s e log acks out reps
