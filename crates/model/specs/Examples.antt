-- What an example is: a setup, a creation, calls, and what is seen of each: its number, the bytes of its messages and of its replies, and
-- the whole state after it. Assumes nothing.
use Rattle.std.specs.Prelude.{ℕ, ◌≡◌, Bool, List, [], ◌∷◌}
use Rattle.std.proofs.Math.Option.{Option, none, some}
use Rattle.entries.specs.declared.Entry.{Entry}
use Rattle.config.specs.declared.Setup.{Setup}
use Rattle.fees.specs.declared.Outcome.{Outcome}
use Rattle.clock.specs.declared.Clock.{Clock}
use Rattle.frames.specs.declared.Status.{Status}
use Rattle.model.specs.State.{ClientEntry, Place, Book, Votes, Reported, Response, Store, State, Answer, after}
use Rattle.model.specs.State.Answer.{refused, done}
use Rattle.model.specs.Sending.{messages_out, replies_out}
use Rattle.model.specs.Steps.{on_frame, on_tick, create, recover}
use Rattle.frames.specs.Refusals.{number_of}

-- a creation: the first, or after a crash, with a view, a nonce and the size of the area for messages
pub data Start : Type 0 where
  new : Start
  back : (view nonce room : ℕ) → Start

-- a call: a tick or a frame; with ample areas, or a tick with the size of the area for messages
pub data Event : Type 0 where
  idle : Event
  idle_in : ℕ → Event
  gets : List ℕ → Event

-- what is seen of a call; a refused creation has no state
pub record SeenCall : Type 0 where
  pub number : ℕ
  pub messages : List ℕ
  pub replies : List ℕ
  pub state : Option State

unfoldable pub saw : ℕ → List ℕ → List ℕ → State → SeenCall
saw k out rs m = record { number = k; messages = out; replies = rs; state = some m }

unfoldable pub saw_refused : ℕ → SeenCall
saw_refused k = record { number = k; messages = []; replies = []; state = none }

unfoldable pub answer_seen : State → Answer → SeenCall
answer_seen m (refused k) = saw (number_of k) [] [] m
answer_seen m (done m' out rs) = saw 0 (messages_out out) (replies_out rs) m'

module _ (u : Setup) where
  unfoldable pub answer : State → Event → Answer
  answer m idle = on_tick u m 65536 65536
  answer m (idle_in a) = on_tick u m a 0
  answer m (gets s) = on_frame u m s 65536 65536

  unfoldable pub seen : State → List Event → List SeenCall
  seen m [] = []
  seen m (e ∷ es) = answer_seen m (answer m e) ∷ seen (after m (answer m e)) es

  unfoldable pub starts : Start → Answer
  starts new = create u
  starts (back v x a) = recover u v x a

  -- what is seen of the creation, and of each call after it
  unfoldable pub seen_from : Answer → List Event → List SeenCall
  seen_from (refused k) es = saw_refused (number_of k) ∷ []
  seen_from (done m out rs) es = saw 0 (messages_out out) (replies_out rs) m ∷ seen m es

pub record Example : Type 0 where
  pub setup : Setup
  pub start : Start
  pub calls : List Event
  pub want : List SeenCall

abbrev pub ExampleHolds : Example → Type 0
ExampleHolds e = seen_from e.setup (starts e.setup e.start) e.calls ≡ e.want

abbrev pub AllHold : List Example → Type 0
AllHold [] = Unit
AllHold (e ∷ es) = ExampleHolds e × AllHold es

-- n, own id, T, L; M is 8
unfoldable pub setup : (n id T L : ℕ) → Setup
setup n id T L = record { n = n; id = id; timeout = T; room = L; members = 8 }

-- the parts of a state, written out
unfoldable pub place : Status → (view last_normal : ℕ) → Bool → Place
place s v l c = record { status = s; view = v; last_normal = l; catching_up = c }

unfoldable pub book : List Entry → ℕ → List Outcome → List ClientEntry → List ℕ → ℕ → List Entry → Book
book log c rs t ts k es = record { log = log; commit = c; results = rs; table = t; totals = ts; takings = k; applied = es }

unfoldable pub table_row : (client request : ℕ) → Option Outcome → ClientEntry
table_row c r k = record { client = c; request = r; kept = k }

unfoldable pub votes : List ℕ → ℕ → Bool → Votes
votes a s b = record { acks = a; starts = s; sent = b }

unfoldable pub store : List (Option Reported) → List (Option Response) → ℕ → Store
store ds rs x = record { reports = ds; responses = rs; nonce = x }

unfoldable pub state : Place → Book → Votes → Store → Clock → State
state p b v t c = record { place = p; book = b; votes = v; store = t; clock = c }
