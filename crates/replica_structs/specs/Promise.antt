-- What the outside calls over row structs promise: `exact`, for any state and any memory; `same`, for memory that calls produced: they are the calls over the byte
-- table, number for number and byte for byte, if each row is written as its 25 bytes. So all that those promise is promised of these. Assumes nothing.
use Rattle.std.specs.Prelude.{◌≡◌, ℕ, ◌≤◌, List, map}
use Rattle.numbers.specs.Words.{All}
use Rattle.numbers.specs.Numbers.{Bytes}
use Rattle.numbers.specs.Cells.{packed}
use Rattle.numbers.specs.declared.View.{View}
use Rattle.entries.specs.declared.Entry.{Entry}
use Rattle.config.specs.declared.Setup.{Setup}
use Rattle.client_table_bytes.specs.Layout.{encode_row}
use Rattle.client_table_bytes.specs.Steps.{RowFits}
use Rattle.client_table_bytes.specs.declared.MarkedRow as T
use Rattle.client_table_structs.specs.declared.Row.{Row}
use Rattle.client_table_structs.specs.declared.KeptReply.{KeptReply}
use Rattle.client_table_structs.specs.declared.KeptReply.TheVariants.{Unused, Waiting, Kept}
use Rattle.state.specs.declared.Replica.{Replica}
use Rattle.replica.specs.Lent.{Lent, Called}
use Rattle.replica.specs.Calls.{message_call, idle_call, create_call, recover_call}
use Rattle.replica.specs.Meaning as Meaning
use Rattle.replica_structs.specs.Calls.{LentRows, CalledRows, message_rows, idle_rows, create_rows, recover_rows}
use Rattle.state.specs.Answers.{code_of}

-- a row's mark and total in bytes
unfoldable pub mark_of : KeptReply → ℕ
mark_of Unused = 0
mark_of Waiting = 255
mark_of (Kept c t) = c

unfoldable pub total_in : KeptReply → ℕ
total_in Unused = 0
total_in Waiting = 0
total_in (Kept c t) = t

-- a row, and rows, as they stand in the byte table
unfoldable pub byte_of : Row → T.MarkedRow
byte_of x = record { client = x.client; request = x.request; mark = mark_of x.reply; total = total_in x.reply }

unfoldable pub table_bytes : List Row → List ℕ
table_bytes xs = packed encode_row (map byte_of xs)

-- what is lent, and what a call leaves, with the rows in bytes
abbrev pub in_bytes : LentRows → Lent
in_bytes x = record { core = x.core; table = table_bytes x.table }

abbrev pub called_bytes : CalledRows → Called
called_bytes d = record { answer = d.answer; lent = in_bytes d.lent }

-- a kept reply is of an outcome of the fee rules, so that no row's mark reads as another
abbrev pub ReplyOk : KeptReply → Type 0
ReplyOk Unused = Unit
ReplyOk Waiting = Unit
ReplyOk (Kept c t) = (1 ≤ c) × (c ≤ 6)

-- and a row's numbers are those that its types hold: `List Row` says less than a slice of rows does
pub record RowOk (x : Row) : Type 0 where
  pub reply : ReplyOk x.reply
  pub fits : RowFits (byte_of x)

abbrev pub RowsOk : List Row → Type 0
RowsOk xs = All RowOk xs

-- State and memory that calls produced.
pub record KeptRows (s : Replica) (x : LentRows) (applied : List Entry) : Type 0 where
  pub rows : RowsOk x.table
  pub kept : Meaning.Kept s (in_bytes x) applied

-- on_message
pub record MessageRowsPromise (s : Replica) (frame : List ℕ) (x : LentRows) (d : CalledRows) : Type 0 where
  pub exact : d ≡ message_rows s frame x
  pub same : (applied : List Entry) → Bytes frame → Meaning.Owned (in_bytes x) → KeptRows s x applied → called_bytes d ≡ message_call s frame (in_bytes x)
  pub keeps : (applied : List Entry) → Bytes frame → Meaning.Owned (in_bytes x) → KeptRows s x applied → RowsOk d.lent.table

-- on_idle
pub record IdleRowsPromise (s : Replica) (x : LentRows) (d : CalledRows) : Type 0 where
  pub exact : d ≡ idle_rows s x
  pub same : (applied : List Entry) → Meaning.Owned (in_bytes x) → KeptRows s x applied → called_bytes d ≡ idle_call s (in_bytes x)
  pub keeps : (applied : List Entry) → Meaning.Owned (in_bytes x) → KeptRows s x applied → RowsOk d.lent.table

-- new, recover: whatever was there before
pub record CreateRowsPromise (u : Setup) (x : LentRows) (d : CalledRows) : Type 0 where
  pub exact : d ≡ create_rows u x
  pub same : called_bytes d ≡ create_call u (in_bytes x)
  pub keeps : code_of d.answer ≡ 0 → RowsOk d.lent.table

pub record RecoverRowsPromise (u : Setup) (v : View) (nonce : ℕ) (x : LentRows) (d : CalledRows) : Type 0 where
  pub exact : d ≡ recover_rows u v nonce x
  pub same : called_bytes d ≡ recover_call u v nonce (in_bytes x)
  pub keeps : code_of d.answer ≡ 0 → RowsOk d.lent.table
