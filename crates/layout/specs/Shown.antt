-- What a step on bytes shows of the model: a refusal is the same and leaves everything as it was; else the model's next state is what is read
-- from what was left, and its messages and replies stand over the fronts of the two areas, with their exact counts. Assumes nothing.
use Rattle.std.specs.Prelude.{ℕ, ◌≡◌, Bool, true, false, List, length}
use Rattle.numbers.specs.Numbers.{over}
use Rattle.entries.specs.declared.Entry.{Entry}
use Rattle.client_table.specs.Latest.{latest_by}
use Rattle.client_table.specs.declared.Latest.{Latest}
use Rattle.client_table.specs.declared.Change.{Change}
use Rattle.state.specs.Answers.{refusal, code_of, installed_of, messages_written, replies_written}
use Rattle.state.specs.declared.Replica.{Replica}
use Rattle.state.specs.declared.Returned as S
use Rattle.model.specs.State.{ClientEntry, Book, State, Sent, Reply, Answer}
use Rattle.model.specs.State.Answer.{refused, done}
use Rattle.model.specs.Book.{find, append_all, commit_up_to, install}
use Rattle.model.specs.Sending.{messages_out, replies_out}
use Rattle.layout.specs.Layout.{LentRuns, model_of}
use Rattle.frames.specs.declared.Refusal.{Refusal}

-- what a step is given: the state by value, the lent runs beside the client table, and the areas for messages and for replies
pub record Given : Type 0 where
  pub state : Replica
  pub runs : LentRuns
  pub out : List ℕ
  pub reps : List ℕ

-- what it leaves
pub record Step : Type 0 where
  pub answer : S.Returned
  pub runs : LentRuns
  pub out : List ℕ
  pub reps : List ℕ

-- a refusal: counts of 0, and all as it was
abbrev pub unchanged : Given → Refusal → Step
unchanged c k = record { answer = refusal k c.state; runs = c.runs; out = c.out; reps = c.reps }

-- How a call changes a book: entries are appended, or the log is installed anew; then it commits up to some op. This is all that the client table
-- has to follow.
pub data Grew (b : Book) (installed : Bool) (b' : Book) : Type 0 where
  more : (es : List Entry) (j : ℕ) → installed ≡ false → b' ≡ commit_up_to (append_all b es) j → Grew b installed b'
  anew : (log : List Entry) (j : ℕ) → installed ≡ true → b' ≡ commit_up_to (install b log) j → Grew b installed b'

-- done: m' is the state after it, b the book before it; the table and the applied entries are the model's
pub record Did (c : Given) (d : Step) (b : Book) (m' : State) (ms : List Sent) (rs : List Reply) : Type 0 where
  pub code : code_of d.answer ≡ 0
  pub setup : d.answer.state.setup ≡ c.state.setup
  pub state : model_of d.answer.state d.runs m'.book.table m'.book.applied ≡ m'
  pub grew : Grew b (installed_of d.answer) m'.book
  pub messages : messages_written d.answer ≡ length (messages_out ms)
  pub out : d.out ≡ over (messages_out ms) c.out
  pub replies : replies_written d.answer ≡ length (replies_out rs)
  pub reps : d.reps ≡ over (replies_out rs) c.reps

-- the step shows the model's answer, b being the book before it
abbrev pub Shown : Given → Step → Book → Answer → Type 0
Shown c d b (refused k) = d ≡ unchanged c k
Shown c d b (done m' ms rs) = Did c d b m' ms rs

-- what a step did to the log, as it is told to whoever follows with the client table
abbrev pub change_of : Given → Step → Change
change_of c d =
    record {
      installed = installed_of d.answer;
      op = c.state.op;
      commit = c.state.commit;
      to = d.answer.state.op;
      done = d.answer.state.commit;
    }

-- what is handed to a handler of a client's latest request is what the model's table has of the client
abbrev pub Tells : List ClientEntry → (client : ℕ) → Latest → Type 0
Tells table client latest = latest ≡ latest_by (find table client).there (find table client).request (find table client).kept
