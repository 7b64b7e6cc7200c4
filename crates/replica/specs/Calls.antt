-- The outside calls: creation, recovery, a frame, a tick (the Rust's `new`, `recover`, `on_message`, `on_idle`), on the state by value and the bytes of
-- everything that is lent. Refusals in document 01's order: 1; 2 to 6 on the frame alone; the Rust's early returns and the later causes in the
-- handlers; 9, 10. Assumes nothing.
use Rattle.std.specs.Prelude.{Option, Some, None, Result, Ok, Err, ◌≡◌, true, not, List, ◌++◌, ℕ, ◌*◌, ◌≤◌, eqb, drop, replicate}
use Rattle.numbers.specs.Words.{when◌then◌else◌}
use Rattle.numbers.specs.Numbers.{over}
use Rattle.numbers.specs.Cells.{packed}
use Rattle.numbers.specs.declared.View.{View}
use Rattle.entries.specs.Entries.{entries}
use Rattle.config.specs.Setup.{setup_ok}
use Rattle.config.specs.declared.Setup.{Setup}
use Rattle.fees.specs.Results.{outcomes}
use Rattle.frames.specs.declared.Message.{Message}
use Rattle.frames.specs.declared.Refusal.{Refusal}
use Rattle.client_table.specs.Found.{Found, found_in, latest_of}
use Rattle.client_table.specs.Rows.{followed}
use Rattle.client_table.specs.declared.Latest.{Latest}
use Rattle.client_table.specs.declared.Latest.TheVariants.{Nothing}
use Rattle.client_table.specs.declared.Change.{Change}
use Rattle.client_table_bytes.specs.Layout.{byte_row, encode_row, rows_of}
use Rattle.client_table_bytes.specs.declared.MarkedRow.{MarkedRow}
use Rattle.state.specs.Answers.{refusal, code_of}
use Rattle.state.specs.Lengths.{log_length, results_length, table_length}
use Rattle.state.specs.declared.Returned.{Returned}
use Rattle.state.specs.declared.Replica.{Replica}
use Rattle.book.specs.Memory.{Memory}
use Rattle.steps.specs.Recorded.{Recorded}
use Rattle.handlers.specs.Handlers.{message_step, idle_step}
use Rattle.outside.specs.Sound.{sound}
use Rattle.outside.specs.Calls.{checked_of, carried_by, change_by}
use Rattle.outside.specs.Creation.{Started, started_memory, create_step, recover_step}
use Rattle.replica.specs.Lent.{Lent, Called, called, lengths_of}
use Rattle.frames.specs.declared.Refusal.TheVariants.{OutOfRange}

-- what is found, among the first n rows, of the client whose entry a message carries
unfoldable pub found_by : Option ℕ → (n : ℕ) (table : List ℕ) → Option (Found MarkedRow)
found_by None n table = None
found_by (Some client) n table = Some (found_in byte_row (rows_of n table) client)

unfoldable pub found_for : Message → (n : ℕ) (table : List ℕ) → Option (Found MarkedRow)
found_for m n table = found_by (carried_by m) n table

-- the same as the core is told it
unfoldable pub latest_found : Option (Found MarkedRow) → Latest
latest_found None = Nothing
latest_found (Some f) = latest_of byte_row f

unfoldable pub latest_for : Message → (n : ℕ) (table : List ℕ) → Latest
latest_for m n table = latest_found (found_for m n table)

-- the client table brought up to a change
unfoldable pub table_after : (n : ℕ) → Change → (table log results : List ℕ) → List ℕ
table_after n k table log results =
    packed encode_row (followed byte_row k (rows_of n table) (entries k.to.0 log) (outcomes k.done.0 results))
    ++ drop (25 * n) table

-- answer and table after a call
pub record Tabled : Type 0 where
  pub answer : Returned
  pub table : List ℕ

abbrev pub tabled : Returned → (table : List ℕ) → Tabled
tabled a table = record { answer = a; table = table }

-- the table follows what the core did, s being the state before it; a refused call leaves it
unfoldable pub followed_by : Replica → Returned → (log results table : List ℕ) → Tabled
followed_by s a log results table =
    when not (eqb (code_of a) 0) then tabled a table else
    tabled a (table_after s.setup.room (change_by s a) table log results)

-- what its code needs: the state and the runs that the core left are sound
pub record Following (s : Replica) (a : Returned) (log results table : ℕ) : Type 0 where
  pub sized : setup_ok s.setup ≡ true
  pub op_le : a.state.op.0 ≤ s.setup.room
  pub commit-le : a.state.commit.0 ≤ a.state.op.0
  pub log-long : log ≡ log_length s.setup
  pub results-long : results ≡ results_length s.setup
  pub table-long : table ≡ table_length s.setup

-- beside what the core left
abbrev pub with_table : Memory → Tabled → Called
with_table m d = called d.answer (record { core = m; table = d.table })

unfoldable pub following : Replica → (table : List ℕ) → Recorded → Called
following s table d =
    with_table d.memory (followed_by s d.answer d.memory.runs.log d.memory.runs.money.results table)

-- a frame, by what refusals 1 to 6 say
unfoldable pub checked_call : Result Message Refusal → Replica → (frame : List ℕ) → Lent → Called
checked_call (Err k) s frame x = called (refusal k s) x
checked_call (Ok m) s frame x =
    following s x.table (message_step m s (latest_for m s.setup.room x.table) frame x.core)

-- on_message
unfoldable pub message_call : Replica → (frame : List ℕ) → Lent → Called
message_call s frame x = checked_call (checked_of s (lengths_of x) frame) s frame x

-- on_idle
unfoldable pub idle_call : Replica → Lent → Called
idle_call s x =
    when not (sound s (lengths_of x)) then called (refusal OutOfRange s) x else
    following s x.table (idle_step s x.core)

-- after a creation the table is zeroed; a refused one leaves it
unfoldable pub cleared : Setup → Lent → Started → Called
cleared u x d =
    called d.answer
    (record {
      core = started_memory x.core d;
      table = when eqb (code_of d.answer) 0 then over (replicate (table_length u) 0) x.table else x.table;
    })

-- new
unfoldable pub create_call : Setup → Lent → Called
create_call u x = cleared u x (create_step u (lengths_of x) x.core.runs.money.totals x.core.acks x.core.out)

-- recover, with the view that was persisted and a nonce
unfoldable pub recover_call : Setup → View → (nonce : ℕ) → Lent → Called
recover_call u v k x = cleared u x (recover_step u v k (lengths_of x) x.core.runs.money.totals x.core.acks x.core.out)
