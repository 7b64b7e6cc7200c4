-- The outside calls with the client table as a slice of row structs. Assumes nothing.
use Rattle.std.specs.Prelude.{ℕ, List, length, replicate, ◌==◌, Option, Some, None, Result}
use Rattle.numbers.specs.Words.{when◌then◌else◌}
use Rattle.numbers.specs.declared.View.{View}
use Rattle.entries.specs.Entries.{entries}
use Rattle.config.specs.declared.Setup.{Setup}
use Rattle.fees.specs.Results.{outcomes}
use Rattle.frames.specs.declared.Refusal.{Refusal}
use Rattle.client_table.specs.Rows.{followed}
use Rattle.client_table.specs.declared.Change.{Change}
use Rattle.client_table_structs.specs.Shape.{unused_row, struct_row, latest_among}
use Rattle.client_table_structs.specs.declared.Row.{Row}
use Rattle.state.specs.declared.Returned.{Returned}
use Rattle.state.specs.declared.Replica.{Replica}
use Rattle.book.specs.Memory.{Memory, memory}
use Rattle.steps.specs.Recorded.{Recorded}
use Rattle.outside.specs.Calls.{checked_of}
use Rattle.replica_structs.specs.Core.{lengths_in, client_in, checked_core, idle_core, create_core, recover_core, change_after}
use Rattle.state.specs.Answers.{code_of}
use Rattle.client_table.specs.declared.Latest.{Latest}
use Rattle.client_table.specs.declared.Latest.TheVariants.{Nothing}
use Rattle.frames.specs.declared.Message.{Message}

-- everything that a call is lent
pub record LentRows : Type 0 where
  pub core : Memory
  pub table : List Row

abbrev pub lent_rows : (log results totals acks stored : List ℕ) (table : List Row) (out reps : List ℕ) → LentRows
lent_rows log results totals acks stored table out reps =
    record { core = memory log results totals acks stored out reps; table = table }

-- what a call leaves
pub record CalledRows : Type 0 where
  pub answer : Returned
  pub lent : LentRows

abbrev pub called_rows : Returned → LentRows → CalledRows
called_rows a x = record { answer = a; lent = x }

-- a call that answers a, on this and leaving that, keeps a promise
abbrev pub KeepsRows : (promise : LentRows → CalledRows → Type 0) → Returned → (before after : LentRows) → Type 0
KeepsRows promise a before after = promise before (called_rows a after)

-- the rows after a change, by the log and the results that the call left
unfoldable pub rows_after : Change → List Row → Memory → List Row
rows_after k rows m =
    followed struct_row k rows (entries k.to.0 m.runs.log) (outcomes k.done.0 m.runs.money.results)

-- the table follows what the core did, s being the state before it
unfoldable pub following_rows : Replica → (table : List Row) → Recorded → CalledRows
following_rows s table d =
    called_rows d.answer (record { core = d.memory; table = rows_after (change_after s d.answer) table d.memory })

-- what the table has of the client that is asked for
unfoldable pub latest_in : List Row → Option ℕ → Latest
latest_in rows None = Nothing
latest_in rows (Some client) = latest_among rows client

-- a frame, by what refusals 1 to 6 say
unfoldable pub checked_rows : Result Message Refusal → Replica → (frame : List ℕ) → LentRows → CalledRows
checked_rows c s frame x =
    following_rows s x.table (checked_core c s (latest_in x.table (client_in c)) frame x.core)

-- on_message
unfoldable pub message_rows : Replica → (frame : List ℕ) → LentRows → CalledRows
message_rows s frame x = checked_rows (checked_of s (lengths_in x.core (length x.table)) frame) s frame x

-- on_idle
unfoldable pub idle_rows : Replica → LentRows → CalledRows
idle_rows s x = following_rows s x.table (idle_core s (length x.table) x.core)

-- after a creation all rows are unused; a refused one leaves them
unfoldable pub cleared_rows : (table : List Row) → Recorded → CalledRows
cleared_rows table d =
    called_rows d.answer
    (record { core = d.memory; table = when (code_of d.answer) == 0 then replicate (length table) unused_row else table })

-- new, recover
unfoldable pub create_rows : Setup → LentRows → CalledRows
create_rows u x = cleared_rows x.table (create_core u (length x.table) x.core)

unfoldable pub recover_rows : Setup → View → (nonce : ℕ) → LentRows → CalledRows
recover_rows u v k x = cleared_rows x.table (recover_core u v k (length x.table) x.core)
