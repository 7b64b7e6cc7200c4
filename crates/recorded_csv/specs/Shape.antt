-- What a recorded call on tables is, and what it says of the definitions: that they answer just so, and leave what is lent just so.
-- The fields are those of ../shared/vectors/orders/FORMAT.md, in its order. Assumes nothing.
use Rattle.std.specs.Prelude.{List, ◌++◌, ℕ, ◌-◌, length, replicate, Result, Ok, Err}
use Rattle.entries.specs.Entries.{run_count}
use Rattle.csv_table.specs.Refusal.{csv_refusal_number}
use Rattle.csv_table.specs.declared.refusal.CsvRefusal.{CsvRefusal}
use Rattle.csv_table.specs.declared.refusal.CsvRefusal.TheVariants.{BadEntry, NoRoom, BadRow}
use Rattle.csv_table.specs.Calls.{CallLeft, export_call, import_call}

-- What is lent is filled with a byte other than 0: what a call leaves as it was differs from a 0 that it writes.
unfoldable pub lent_area : (room : ℕ) → List ℕ
lent_area k = replicate k 165

-- An answer as it is recorded: the refusal's number, 0 where the call is done, the bad row, and how many bytes or entries; and the area that is left. Of a bad
-- row only its number is recorded: its first bad field, what is wrong with that and where it begins are passed over.
pub record RecordedAnswer : Type 0 where
  pub code : ℕ
  pub row : ℕ
  pub count : ℕ
  pub area : List ℕ

unfoldable pub bad_row : CsvRefusal → ℕ
bad_row BadEntry = 0
bad_row NoRoom = 0
bad_row (BadRow row column fault offset) = row

unfoldable pub recorded_answer : Result ℕ CsvRefusal → (area : List ℕ) → RecordedAnswer
recorded_answer (Ok n) area = record { code = 0; row = 0; count = n; area = area }
recorded_answer (Err r) area = record { code = csv_refusal_number r; row = bad_row r; count = 0; area = area }

abbrev pub as_recorded : CallLeft → RecordedAnswer
as_recorded d = recorded_answer d.answer d.area

-- ---- export: the bytes of room for the text, the entries

pub record ToExport : Type 0 where
  pub room : ℕ
  pub run : List ℕ

abbrev pub to_export : (room : ℕ) (run : List ℕ) → ToExport
to_export k run = record { room = k; run = run }

unfoldable pub export_of : ToExport → RecordedAnswer
export_of x = as_recorded (export_call x.run (lent_area x.room))

-- this text, and behind it the rest of the room as it was
unfoldable pub all_exported : (room : ℕ) (text : List ℕ) → RecordedAnswer
all_exported k t = record { code = 0; row = 0; count = length t; area = t ++ lent_area (k - length t) }

unfoldable pub none_exported : (code room : ℕ) → RecordedAnswer
none_exported c k = record { code = c; row = 0; count = 0; area = lent_area k }

-- ---- import: the bytes of room for entries, the text

pub record ToImport : Type 0 where
  pub room : ℕ
  pub file : List ℕ

abbrev pub to_import : (room : ℕ) (file : List ℕ) → ToImport
to_import k file = record { room = k; file = file }

unfoldable pub import_of : ToImport → RecordedAnswer
import_of x = as_recorded (import_call x.file (lent_area x.room))

-- these entries, and behind them the rest of the room as it was
unfoldable pub all_imported : (room : ℕ) (run : List ℕ) → RecordedAnswer
all_imported k s = record { code = 0; row = 0; count = run_count s; area = s ++ lent_area (k - length s) }

unfoldable pub none_imported : (code row room : ℕ) → RecordedAnswer
none_imported c r k = record { code = c; row = r; count = 0; area = lent_area k }
