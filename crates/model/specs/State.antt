-- The state of a replica, what it sends, and what a call answers. It follows the Rust's `struct Replica`, in groups that change together.
-- View, op and commit numbers are plain numbers here; in messages they are the tuple structs. Assumes nothing.
use Rattle.std.specs.Prelude.{ℕ, Bool, List, [], length}
use Rattle.std.proofs.Math.Option.{Option}
use Rattle.numbers.specs.declared.View.{View}
use Rattle.numbers.specs.declared.Op.{Op}
use Rattle.entries.specs.declared.Entry.{Entry}
use Rattle.fees.specs.declared.Outcome.{Outcome}
use Rattle.clock.specs.declared.Clock.{Clock}
use Rattle.frames.specs.declared.Status.{Status}
use Rattle.frames.specs.declared.Message.{Message}
use Rattle.frames.specs.declared.Refusal.{Refusal}

-- a view number as the tuple struct that messages carry
abbrev pub view_of : ℕ → View
view_of n = record { 0 = n }

-- an op or commit number as the tuple struct
abbrev pub op_number : ℕ → Op
op_number n = record { 0 = n }

-- A row of the client table, the Rust's `ClientEntry` with its key: the client's latest request, and the reply once it was executed.
pub record ClientEntry : Type 0 where
  pub client : ℕ
  pub request : ℕ
  pub kept : Option Outcome

-- Which view the replica is in, and what it does there: `status`, `view_number`, `last_normal_view`, `catching_up`.
pub record Place : Type 0 where
  pub status : Status
  pub view : ℕ
  pub last_normal : ℕ
  pub catching_up : Bool

-- `log`, `commit_number`, `client_table` in rising order of client id, and the state machine: the members' totals. Besides, what each
-- applied entry gave (results), the sum over all members (takings; document 02, order 4), and the applied entries themselves, in order
-- (document 01, "Fee rules"). `applied` is a history for the theorems: a commit adds to it the entry that it put through the rules, nothing
-- else does, and no byte of the state holds it.
pub record Book : Type 0 where
  pub log : List Entry
  pub commit : ℕ
  pub results : List Outcome
  pub table : List ClientEntry
  pub totals : List ℕ
  pub takings : ℕ
  pub applied : List Entry

-- Who has spoken. `acks`: of each op 1 to L the set of replicas that acknowledged it, 0 where there is no row; `start_view_change_from`,
-- one set; `do_view_change_sent`. A set of replicas is a number with one bit for each replica.
pub record Votes : Type 0 where
  pub acks : List ℕ
  pub starts : ℕ
  pub sent : Bool

-- a whole log with its commit number, as messages carry it
pub record Held : Type 0 where
  pub commit : ℕ
  pub log : List Entry

-- what a replica reported in a DoViewChange: the Rust's `struct DoViewChange`
pub record Reported : Type 0 where
  pub last_normal : ℕ
  pub held : Held

-- what a replica answered to our Recovery: the Rust's `struct RecoveryResponse`
pub record Response : Type 0 where
  pub view : ℕ
  pub held : Option Held

-- `do_view_change_from` and `recovery_responses`, one place for each replica id; `recovery_nonce`
pub record Store : Type 0 where
  pub reports : List (Option Reported)
  pub responses : List (Option Response)
  pub nonce : ℕ

-- the state; the setup is fixed at creation and stands beside it
pub record State : Type 0 where
  pub place : Place
  pub book : Book
  pub votes : Votes
  pub store : Store
  pub clock : Clock

-- a message to a replica, with the log that it carries ([] where its kind carries none)
pub record Sent : Type 0 where
  pub to : ℕ
  pub message : Message
  pub log : List Entry

-- a reply to a client
pub record Reply : Type 0 where
  pub view : ℕ
  pub client : ℕ
  pub request : ℕ
  pub result : Outcome

-- What a call answers: a refusal, or the new state with the messages and the replies to send, in order. A refusal has no state:
-- all stays as it was (document 01, "Refusal numbers").
pub data Answer : Type 0 where
  refused : Refusal → Answer
  done : State → List Sent → List Reply → Answer

-- the state after a call
unfoldable pub after : State → Answer → State
after m (refused k) = m
after m (done m' out rs) = m'

-- done, nothing sent; where the state is the old one, "messages the Rust ignores"
unfoldable pub ignored : State → Answer
ignored m = done m [] []

-- One part of the state anew, the others as they are: another place.
unfoldable pub set_place : State → Place → State
set_place m p = record { place = p; book = m.book; votes = m.votes; store = m.store; clock = m.clock }

-- another book
unfoldable pub set_book : State → Book → State
set_book m b = record { place = m.place; book = b; votes = m.votes; store = m.store; clock = m.clock }

-- other votes
unfoldable pub set_votes : State → Votes → State
set_votes m v = record { place = m.place; book = m.book; votes = v; store = m.store; clock = m.clock }

-- another store
unfoldable pub set_store : State → Store → State
set_store m t = record { place = m.place; book = m.book; votes = m.votes; store = t; clock = m.clock }

-- another clock
unfoldable pub set_clock : State → Clock → State
set_clock m c = record { place = m.place; book = m.book; votes = m.votes; store = m.store; clock = c }

-- another status in the same place
unfoldable pub set_status : State → Status → State
set_status m s =
    set_place m (record { status = s; view = m.place.view; last_normal = m.place.last_normal; catching_up = m.place.catching_up })

-- other acks among the votes
unfoldable pub set_acks : State → List ℕ → State
set_acks m a = set_votes m (record { acks = a; starts = m.votes.starts; sent = m.votes.sent })

-- op_number: how many entries the log has
unfoldable pub op_of : State → ℕ
op_of m = length m.book.log
