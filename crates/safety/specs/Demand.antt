-- What demand 3 says, over any list of outside calls (frames with any bytes, ticks, areas of any size, refused calls included) from a
-- creation, first or after a crash, that was not refused. Assumes nothing.
use Rattle.std.specs.Prelude.{ℕ, ◌+◌, ◌≤◌, ◌<◌, ◌≡◌, true, List, [], ◌∷◌, ◌++◌, length, take, get_or, replicate}
use Rattle.std.proofs.Math.Option.{Option, none, some}
use Rattle.entries.specs.Rising.{rising}
use Rattle.entries.specs.declared.Entry.{Entry}
use Rattle.config.specs.declared.Setup.{Setup}
use Rattle.model.specs.State.{Held, Reported, Response, State, Sent, Reply, Answer, after}
use Rattle.model.specs.State.Answer.{done}
use Rattle.model.specs.Book.{results_of, find, table_of, Rises}
use Rattle.model.specs.Steps.{on_frame, on_tick, create, recover, numbers_ok}
use Rattle.safety.specs.Remembered.{Remembers}
use Rattle.safety.specs.Money.{fees_of, refunds_of, all_fees, all_refunds, sum}

-- an outside call, with the sizes of the areas for messages and for replies
pub data Call : Type 0 where
  frame : List ℕ → (room room_replies : ℕ) → Call
  tick : (room room_replies : ℕ) → Call

-- what a call answers
unfoldable pub answer : Setup → State → Call → Answer
answer u m (frame s a b) = on_frame u m s a b
answer u m (tick a b) = on_tick u m a b

-- calls one after the other; a refused call leaves the state as it was
unfoldable pub run : Setup → State → List Call → State
run u m [] = m
run u m (c ∷ cs) = run u (after m (answer u m c)) cs

-- a creation that was not refused, and its state
pub data Created (u : Setup) (m : State) : Type 0 where
  new : (out : List Sent) (rs : List Reply) → create u ≡ done m out rs → Created u m
  back : (v x a : ℕ) (out : List Sent) (rs : List Reply) → recover u v x a ≡ done m out rs → Created u m

-- a place, if it is filled
abbrev pub At : {A : Type 0} → (A → Type 0) → Option A → Type 0
At P none = Unit
At P (some x) = P x

-- each place
abbrev pub Every : {A : Type 0} → (A → Type 0) → List (Option A) → Type 0
Every P [] = Unit
Every P (x ∷ xs) = At P x × Every P xs

-- a stored log: within the room, rising, its commit number not past it
pub record StoredSound (u : Setup) (h : Held) : Type 0 where
  pub fits : length h.log ≤ u.room
  pub rises : rising h.log ≡ true
  pub commit-le : h.commit ≤ length h.log

-- a stored DoViewChange
abbrev pub SoundReport : Setup → Reported → Type 0
SoundReport u d = StoredSound u d.held

-- a stored RecoveryResponse, if it has a state
abbrev pub SoundResponse : Setup → Response → Type 0
SoundResponse u d = At (StoredSound u) d.held

-- M totals of 0
abbrev pub zeros : Setup → List ℕ
zeros u = replicate u.members 0

-- what holds of every state that calls lead to
pub record Safe (u : Setup) (m : State) : Type 0 where
  -- the applied entries are the committed part of the log
  pub applied-is : m.book.applied ≡ take m.book.commit m.book.log
  pub commit-le : m.book.commit ≤ length m.book.log
  pub log-fits : length m.book.log ≤ u.room
  -- no client and number twice in the log: of two entries of one client the later has the greater number
  pub once :
      (d : Entry) (i j : ℕ) → i < j → j < length m.book.log
      → (get_or m.book.log i d).client ≡ (get_or m.book.log j d).client
      → (get_or m.book.log i d).request < (get_or m.book.log j d).request
  -- results are the fee rules' answers over the applied entries, from zero
  pub results-are : m.book.results ≡ results_of (zeros u) m.book.applied
  pub results-count : length m.book.results ≡ m.book.commit
  -- total = fees taken less refunds paid, stated as total + refunds = fees
  pub member-totals :
      (k : ℕ) → get_or m.book.totals k 0 + refunds_of k (zeros u) m.book.applied ≡ fees_of k (zeros u) m.book.applied
  pub sum-of-totals : sum m.book.totals + all_refunds (zeros u) m.book.applied ≡ all_fees (zeros u) m.book.applied
  -- the takings that are kept are the full addition (document 02, order 4)
  pub takings-are : m.book.takings ≡ sum m.book.totals
  pub totals-count : length m.book.totals ≡ u.members
  -- the table: client ids rise, a row for each client of the log; it is that of log, results and commit number, which is to say that each row
  -- has its client's last number, and the outcome and total of that entry if it is committed (document 02, order 6)
  pub table-rises : Rises m.book.table
  pub table-has : (d : Entry) (i : ℕ) → i < length m.book.log → (find m.book.table (get_or m.book.log i d).client).there ≡ true
  pub table_is : m.book.table ≡ table_of m.book.log m.book.results m.book.commit
  pub remembers : Remembers m.book
  pub table_fits : length m.book.table ≤ length m.book.log
  -- stored logs
  pub reports-sound : Every (SoundReport u) m.store.reports
  pub responses-sound : Every (SoundResponse u) m.store.responses
  -- refusal 1 is never given after a creation
  pub never-1 : numbers_ok u m ≡ true

-- what holds between a state and one that further calls lead to
pub record Later (m m' : State) : Type 0 where
  pub view-up : m.place.view ≤ m'.place.view
  pub commit-up : m.book.commit ≤ m'.book.commit
  pub more : List Entry
  pub applied-grows : m'.book.applied ≡ m.book.applied ++ more

-- demand 3: after any calls the state is safe, and what further calls lead to is later
pub record Demand3 (u : Setup) (m m' : State) : Type 0 where
  pub safe : Safe u m
  pub later : Later m m'
