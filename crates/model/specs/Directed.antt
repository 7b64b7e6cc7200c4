-- Directed examples, one for each line of document 01's "Steps that are easy to misread", for its unmarked examples and for surprises of
-- the Rust. Of each call: number, bytes of messages, bytes of replies; at the end the whole state. Assumes nothing.
use Rattle.std.specs.Prelude.{Some, None, ℕ, ◌≡◌, List, [], ◌∷◌, length, replicate}
use Rattle.std.proofs.Math.Option.{Option, none, some}
use Rattle.numbers.specs.Cells.{packed}
use Rattle.entries.specs.Entries.{encode_entry}
use Rattle.entries.specs.declared.Entry.{Entry}
use Rattle.config.specs.declared.Setup.{Setup}
use Rattle.frames.specs.declared.Message.TheVariants.{Request, Prepare, PrepareOk, Commit, GetState, NewState, StartViewChange, DoViewChange, StartView}
use Rattle.frames.specs.declared.Message.TheVariants.{Recovery, RecoveryResponse}
use Rattle.writers.specs.Writers.{encode, reply}
use Rattle.model.specs.State.{view_of, op_number, ClientEntry, Book, Store, State, Answer, after}
use Rattle.model.specs.State.Answer.{refused, done}
use Rattle.model.specs.Sending.{messages_out, replies_out}
use Rattle.model.specs.Examples.{Start, Event, answer, starts, book, store}
use Rattle.frames.specs.Messages.{progress}
use Rattle.frames.specs.Refusals.{number_of}

-- a call, with what it answers
pub record DirectedStep : Type 0 where
  pub call : Event
  pub number : ℕ
  pub messages : List ℕ
  pub replies : List ℕ

-- a call that answers so
unfoldable pub step : Event → ℕ → List ℕ → List ℕ → DirectedStep
step e k out rs = record { call = e; number = k; messages = out; replies = rs }

-- a call with what it does answer
unfoldable pub told : Event → Answer → DirectedStep
told e (refused k) = step e (number_of k) [] []
told e (done m out rs) = step e 0 (messages_out out) (replies_out rs)

module _ (u : Setup) where
  -- what the calls answer, and where they lead
  unfoldable pub answers : State → List DirectedStep → List DirectedStep
  answers m [] = []
  answers m (s ∷ ss) = told s.call (answer u m s.call) ∷ answers (after m (answer u m s.call)) ss

  -- the state that the calls lead to
  unfoldable pub ends : State → List DirectedStep → State
  ends m [] = m
  ends m (s ∷ ss) = ends (after m (answer u m s.call)) ss

-- a directed example
pub record Directed : Type 0 where
  pub setup : Setup
  pub start : Start
  pub steps : List DirectedStep
  pub last : State

-- what ran: the calls with their answers, and the state at the end
pub record DirectedRan : Type 0 where
  pub steps : List DirectedStep
  pub last : Option State

-- from a creation
unfoldable pub ran_from : Setup → Answer → List DirectedStep → DirectedRan
ran_from u (refused k) ss = record { steps = []; last = none }
ran_from u (done m out rs) ss = record { steps = answers u m ss; last = some (ends u m ss) }

-- a directed example holds
abbrev pub DirectedHolds : Directed → Type 0
DirectedHolds d = ran_from d.setup (starts d.setup d.start) d.steps ≡ record { steps = d.steps; last = some d.last }

-- each of a list holds
abbrev pub AllRun : List Directed → Type 0
AllRun [] = Unit
AllRun (d ∷ ds) = DirectedHolds d × AllRun ds

-- ---- frames, and parts of states

-- a Fee for member 3
unfoldable pub fee : (client request cents : ℕ) → Entry
fee c r x = record { client = c; request = r; operation = 1; member = 3; cents = x }

-- A, B and C: fees of clients 1, 2 and 3
unfoldable pub A : Entry
A = fee 1 0 10

unfoldable pub B : Entry
B = fee 2 0 20

unfoldable pub C : Entry
C = fee 3 0 30

-- the bytes of a log
unfoldable pub entries_bytes : List Entry → List ℕ
entries_bytes es = packed encode_entry es

-- frames to a replica, one function a kind
unfoldable pub request_frame_to : ℕ → Entry → List ℕ
request_frame_to to e = encode to (Request e) []

unfoldable pub prepare_to : (to v o c : ℕ) → Entry → List ℕ
prepare_to to v o c e = encode to (Prepare (view_of v) (op_number o) (op_number c) e) []

unfoldable pub prepare_ok_to : (to v o r : ℕ) → List ℕ
prepare_ok_to to v o r = encode to (PrepareOk (view_of v) (op_number o) r) []

unfoldable pub commit_to : (to v c : ℕ) → List ℕ
commit_to to v c = encode to (Commit (view_of v) (op_number c)) []

unfoldable pub get_state_to : (to r v o : ℕ) → List ℕ
get_state_to to r v o = encode to (GetState r (view_of v) (op_number o)) []

unfoldable pub new_state_to : (to v a z c : ℕ) → List Entry → List ℕ
new_state_to to v a z c es = encode to (NewState (view_of v) (op_number a) (op_number z) (op_number c)) (entries_bytes es)

unfoldable pub call_to : (to v r : ℕ) → List ℕ
call_to to v r = encode to (StartViewChange (view_of v) r) []

unfoldable pub report_frame_to : (to v r l c : ℕ) → List Entry → List ℕ
report_frame_to to v r l c es = encode to (DoViewChange (view_of v) r (view_of l) (op_number (length es)) (op_number c)) (entries_bytes es)

unfoldable pub start_view_to : (to v c : ℕ) → List Entry → List ℕ
start_view_to to v c es = encode to (StartView (view_of v) (op_number (length es)) (op_number c)) (entries_bytes es)

unfoldable pub recovery_to : (to r x v : ℕ) → List ℕ
recovery_to to r x v = encode to (Recovery r x (view_of v)) []

unfoldable pub bare_response_to : (to v x r : ℕ) → List ℕ
bare_response_to to v x r = encode to (RecoveryResponse (view_of v) x r None) []

unfoldable pub response_to : (to v x r c : ℕ) → List Entry → List ℕ
response_to to v x r c es = encode to (RecoveryResponse (view_of v) x r (Some (progress (op_number (length es)) (op_number c)))) (entries_bytes es)

-- the reply to a fee that was taken
unfoldable pub paid_reply : (v client request total : ℕ) → List ℕ
paid_reply v c r t = reply (view_of v) c r 1 t

-- the totals where only member 3 has one; a log of which nothing is committed; nothing stored, of n replicas
unfoldable pub totals3 : ℕ → List ℕ
totals3 t = 0 ∷ 0 ∷ 0 ∷ t ∷ 0 ∷ 0 ∷ 0 ∷ 0 ∷ []

unfoldable pub untouched : List Entry → List ClientEntry → Book
untouched log t = book log 0 [] t (totals3 0) 0 []

unfoldable pub none_stored : ℕ → ℕ → Store
none_stored n x = store (replicate n none) (replicate n none) x

unfoldable pub acks2 : ℕ → ℕ → List ℕ
acks2 a b = a ∷ b ∷ 0 ∷ 0 ∷ 0 ∷ 0 ∷ 0 ∷ 0 ∷ []
