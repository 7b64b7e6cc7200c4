-- What state and lent memory mean in the model, which of them calls produce, and what a call that gives the model's answer leaves. Assumes nothing.
use Rattle.std.specs.Prelude.{◌≡◌, true, List, ℕ, ◌<◌, length, get_or, drop}
use Rattle.numbers.specs.Numbers.{Bytes, over}
use Rattle.entries.specs.Entries.{entries_ok}
use Rattle.entries.specs.declared.Entry.{Entry}
use Rattle.config.specs.declared.Setup.{Setup}
use Rattle.client_table_bytes.specs.Layout.{byte_row, rows_of}
use Rattle.state.specs.Statuses.{no_report}
use Rattle.state.specs.Answers.{refusal, code_of, messages_written, replies_written}
use Rattle.state.specs.Lengths.{stored_place}
use Rattle.state.specs.declared.Replica.{Replica}
use Rattle.model.specs.State.{State, Sent, Reply, Answer, after}
use Rattle.model.specs.State.Answer.{refused, done}
use Rattle.model.specs.Sending.{messages_out, replies_out}
use Rattle.layout.specs.Layout.{LentRuns, table_in, Ordered, model_of}
use Rattle.model.specs.Steps.{on_frame, on_tick}
use Rattle.safety.specs.Demand.{Call, run, Created}
use Rattle.outside.specs.Sound.{sound}
use Rattle.replica.specs.Lent.{Lent, Called, called, lengths_of}

-- the runs beside the client table
abbrev pub runs_of : Lent → LentRuns
runs_of x =
    record {
      log = x.core.runs.log;
      results = x.core.runs.money.results;
      totals = x.core.runs.money.totals;
      acks = x.core.acks;
      stored = x.core.stored;
    }

-- what state and memory mean; the applied entries are a history that no byte holds
abbrev pub meaning_of : Replica → Lent → (applied : List Entry) → State
meaning_of s x applied = model_of s (runs_of x) (table_in byte_row (rows_of s.setup.room x.table)) applied

-- what lending byte runs tells
pub record Owned (x : Lent) : Type 0 where
  pub log : Bytes x.core.runs.log
  pub results : Bytes x.core.runs.money.results
  pub totals : Bytes x.core.runs.money.totals
  pub stored : Bytes x.core.stored
  pub table : Bytes x.table

-- a state of the model that calls lead to from a creation which wasn't refused
pub record Reached (u : Setup) (m : State) : Type 0 where
  pub first : State
  pub created : Created u first
  pub calls : List Call
  pub is : m ≡ run u first calls

-- State and memory that calls produced: they pass refusal 1, each entry of each log keeps the entry rules byte for byte, the rows of the client table
-- stand in order, and what it all means is a state that calls lead to.
pub record Kept (s : Replica) (x : Lent) (applied : List Entry) : Type 0 where
  pub sound : sound s (lengths_of x) ≡ true
  pub log-ok : entries_ok s.op.0 x.core.runs.log ≡ true
  pub rows-count : length s.reports.rows ≡ 7
  pub stored_ok :
      (i : ℕ) → i < s.setup.n → (get_or s.reports.rows i no_report).there ≡ true
      → entries_ok (get_or s.reports.rows i no_report).op.0 (drop (stored_place s.setup.room i) x.core.stored) ≡ true
  pub ordered : Ordered byte_row (rows_of s.setup.room x.table)
  pub reached : Reached s.setup (meaning_of s x applied)

-- a call that is done: the model's next state is what is read from what was left; its messages and replies stand over the fronts of the two areas, with
-- their exact counts
pub record Done (u : Setup) (x : Lent) (d : Called) (m : State) (ms : List Sent) (rs : List Reply) : Type 0 where
  pub code : code_of d.answer ≡ 0
  pub setup : d.answer.state.setup ≡ u
  pub state : meaning_of d.answer.state d.lent m.book.applied ≡ m
  pub messages : messages_written d.answer ≡ length (messages_out ms)
  pub out : d.lent.core.out ≡ over (messages_out ms) x.core.out
  pub replies : replies_written d.answer ≡ length (replies_out rs)
  pub reps : d.lent.core.reps ≡ over (replies_out rs) x.core.reps

-- the model's answer, of a call with memory x; a refusal leaves that as it was, and hands back state s
abbrev pub Means : Setup → Replica → Lent → Called → Answer → Type 0
Means u s x d (refused k) = d ≡ called (refusal k s) x
Means u s x d (done m ms rs) = Done u x d m ms rs

-- the model's answer to a frame, and to a tick
abbrev pub frame_answer : Replica → (frame : List ℕ) → Lent → (applied : List Entry) → Answer
frame_answer s frame x applied =
    on_frame s.setup (meaning_of s x applied) frame (length x.core.out) (length x.core.reps)

abbrev pub tick_answer : Replica → Lent → (applied : List Entry) → Answer
tick_answer s x applied = on_tick s.setup (meaning_of s x applied) (length x.core.out) (length x.core.reps)

-- what was applied after the model's answer to a state m
abbrev pub applied_after : State → Answer → List Entry
applied_after m a = (after m a).book.applied
