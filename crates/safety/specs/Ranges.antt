-- The ranges of a state's numbers, over the calls that demand 3 speaks of: each number fits the field that holds it. Assumes nothing.
use Rattle.std.specs.Prelude.{ℕ, ◌^◌, ◌≤◌, ◌<◌, ◌≡◌, List, length}
use Rattle.numbers.specs.Words.{All}
use Rattle.numbers.specs.Numbers.{Bytes}
use Rattle.entries.specs.Entries.{EntryFits}
use Rattle.config.specs.declared.Setup.{Setup}
use Rattle.model.specs.State.{Held, Reported, Response, State}
use Rattle.safety.specs.Demand.{Call, At, Every}
use Rattle.safety.specs.Demand.Call.{frame, tick}

-- a call's frame is bytes: `List ℕ` says less than the wire does
abbrev pub BytesOf : Call → Type 0
BytesOf (frame s a b) = Bytes s
BytesOf (tick a b) = Unit

-- each frame of the calls is bytes
abbrev pub BytesIn : List Call → Type 0
BytesIn cs = All BytesOf cs

-- a set of replicas has ids below n only (the laws of `config` say the same of `Member`)
abbrev pub Below : ℕ → ℕ → Type 0
Below n s = s < 2 ^ n

-- a member's total (document 01, "Fee rules")
abbrev pub Small : ℕ → Type 0
Small t = t ≤ 1000000000

-- a stored log; demand 3 bounds its commit number and its length
abbrev pub HeldFits : Held → Type 0
HeldFits h = All EntryFits h.log

-- a stored DoViewChange
pub record ReportedFits (d : Reported) : Type 0 where
  pub last-normal : d.last_normal < 4294967296
  pub entries_fit : HeldFits d.held

-- a stored RecoveryResponse, with its log if it has one
pub record ResponseFits (d : Response) : Type 0 where
  pub view-fits : d.view < 4294967296
  pub entries_fit : At HeldFits d.held

-- what holds of every state that calls lead to
pub record Ranges (u : Setup) (m : State) : Type 0 where
  pub view-fits : m.place.view < 4294967296
  -- what was Normal last is no later view
  pub last-normal : m.place.last_normal ≤ m.place.view
  pub nonce-fits : m.store.nonce < 18446744073709551616
  pub entries_fit : All EntryFits m.book.log
  pub totals-small : All Small m.book.totals
  -- a row of acks for each op 1 to L
  pub acks-count : length m.votes.acks ≡ u.room
  pub acks-below : All (Below u.n) m.votes.acks
  pub starts-below : Below u.n m.votes.starts
  -- a place for each replica id
  pub reports-count : length m.store.reports ≡ u.n
  pub reports-fit : Every ReportedFits m.store.reports
  pub responses-count : length m.store.responses ≡ u.n
  pub responses-fit : Every ResponseFits m.store.responses
  -- the clock's counters, to where each is counted
  pub waiting-fits : m.clock.waiting < 4294967296
  pub stable-le : m.clock.stable ≤ u.timeout
  pub attempts-le : m.clock.attempts ≤ 10
