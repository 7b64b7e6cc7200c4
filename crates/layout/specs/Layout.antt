-- The layout: the model's state as it is read from the state that a replica holds by value and from the runs that it is lent. Nothing is written
-- by this: what a call leaves in each run is said of bytes. Assumes nothing.
use Rattle.std.specs.Prelude.{ℕ, suc, ◌≤◌, ◌≡◌, false, List, [], ◌∷◌, length, take, drop, replicate}
use Rattle.std.proofs.Math.Option.{Option, none, some}
use Rattle.numbers.specs.Words.{when◌then◌else◌}
use Rattle.numbers.specs.Numbers.{num}
use Rattle.numbers.specs.Cells.{cells}
use Rattle.entries.specs.Entries.{entries}
use Rattle.entries.specs.declared.Entry.{Entry}
use Rattle.config.specs.declared.Setup.{Setup}
use Rattle.fees.specs.Results.{outcomes}
use Rattle.client_table.specs.Shape.{Shape, row_at}
use Rattle.book.specs.Memory.{Money, money}
use Rattle.state.specs.Statuses.{is_recovering}
use Rattle.state.specs.Lengths.{log_length, results_length, acks_length, totals_length, stored_place, stored_length}
use Rattle.state.specs.declared.Replica.{Replica}
use Rattle.state.specs.declared.Report.{Report}
use Rattle.model.specs.State as M
use Rattle.model.specs.Book.{Rises}

-- the runs that are lent beside the client table
pub record LentRuns : Type 0 where
  pub log : List ℕ
  pub results : List ℕ
  pub totals : List ℕ
  pub acks : List ℕ
  pub stored : List ℕ

-- each of its fixed length, or refusal 1
pub record FixedLengths (u : Setup) (x : LentRuns) : Type 0 where
  pub log-long : length x.log ≡ log_length u
  pub results-long : length x.results ≡ results_length u
  pub totals-long : length x.totals ≡ totals_length u
  pub acks-long : length x.acks ≡ acks_length u
  pub stored-long : length x.stored ≡ stored_length u

-- The client table, in whichever form its rows are held.
module _ {R : Type 0} (h : Shape R) where
  -- a row in use
  unfoldable pub meant : R → M.ClientEntry
  meant x = record { client = h.client x; request = h.request x; kept = h.kept x }

  -- the rows before the first unused one
  unfoldable pub table_in : List R → List M.ClientEntry
  table_in [] = []
  table_in (x ∷ xs) = when h.used x then meant x ∷ table_in xs else []

  -- rows as calls leave them: client ids rise, unused rows stand last
  pub record Ordered (xs : List R) : Type 0 where
    pub rises : Rises (table_in xs)
    pub unused-last : (i : ℕ) → length (table_in xs) ≤ i → h.used (row_at h xs i) ≡ false

-- a total, 8 bytes
abbrev pub total_of : List ℕ → ℕ
total_of s = num 8 0 s

module _ (u : Setup) (stored : List ℕ) where
  -- the log that is stored for a replica, with its commit number
  unfoldable pub held_at : ℕ → Report → M.Held
  held_at i d = record { commit = d.commit.0; log = entries d.op.0 (drop (stored_place u.room i) stored) }

  -- a place, read as a DoViewChange
  unfoldable pub report_at : ℕ → Report → Option M.Reported
  report_at i d = when d.there then some (record { last_normal = d.view.0; held = held_at i d }) else none

  -- a place, read as a RecoveryResponse
  unfoldable pub response_at : ℕ → Report → Option M.Response
  response_at i d =
      when d.there then some (record { view = d.view.0; held = when d.full then some (held_at i d) else none }) else none

-- the places from id i on
unfoldable pub placed : {A : Type 0} → (ℕ → Report → Option A) → ℕ → List Report → List (Option A)
placed f i [] = []
placed f i (d ∷ ds) = f i d ∷ placed f (suc i) ds

-- The places of all n replicas hold responses in Recovering, and reports in every other status: they are never needed together.
unfoldable pub store_of : Replica → List ℕ → M.Store
store_of s stored =
    record {
      reports =
          when is_recovering s.status then replicate s.setup.n none else
          placed (report_at s.setup stored) 0 (take s.setup.n s.reports.rows);
      responses =
          when is_recovering s.status then placed (response_at s.setup stored) 0 (take s.setup.n s.reports.rows) else
          replicate s.setup.n none;
      nonce = s.nonce;
    }

-- The book, of so many members and a log of op entries, commit of them committed, with the takings that the state has. The client table is handed in as it is read from its own run. So are
-- the applied entries, which no byte holds: what a call does to them the model says alone.
unfoldable pub book_of : (members op commit : ℕ) (log : List ℕ) → Money → (takings : ℕ) (table : List M.ClientEntry) (applied : List Entry) → M.Book
book_of members op commit log x takings table applied =
    record {
      log = entries op log;
      commit = commit;
      results = outcomes commit x.results;
      table = table;
      totals = cells 8 total_of members x.totals;
      takings = takings;
      applied = applied;
    }

-- the state
unfoldable pub model_of : Replica → LentRuns → (table : List M.ClientEntry) (applied : List Entry) → M.State
model_of s x table applied =
    record {
      place = record { status = s.status; view = s.view.0; last_normal = s.normal.0; catching_up = s.catching };
      book = book_of s.setup.members s.op.0 s.commit.0 x.log (money x.results x.totals) s.takings table applied;
      votes = record { acks = x.acks; starts = s.starts; sent = s.sent };
      store = store_of s x.stored;
      clock = s.clock;
    }
