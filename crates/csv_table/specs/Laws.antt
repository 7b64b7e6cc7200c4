-- What holds of export and import. Import in both directions: what it accepts is the table of the entries that it gives, and no such table is refused but for
-- want of room; the row that is named is the first bad one. Importing an export gives the same entries; exporting an import gives the unquoted form with every
-- CRLF. A call that is refused leaves what was lent as it was. Assumes nothing.
use Rattle.std.specs.Prelude.{◌≡◌, List, [], ◌++◌, ◌⊎◌, ℕ, zero, suc, ◌+◌, ◌-◌, ◌*◌, ◌≤◌, length, take, Ok, Err}
use Rattle.std.specs.Result.{result_unwrap_or}
use Rattle.numbers.specs.Words.{All}
use Rattle.numbers.specs.Numbers.{over}
use Rattle.entries.specs.Entries.{entries, run_count, Sendable}
use Rattle.entries.specs.declared.Entry.{Entry}
use Rattle.csv_table.specs.Rows.{crlf, RowText, RowsText}
use Rattle.csv_table.specs.Table.{header_words, entry_fields, table, exported, IsTable}
use Rattle.csv_table.specs.Calls.{CallLeft, export_call, importing, import_call}
use Rattle.csv_table.specs.declared.refusal.CsvRefusal.{CsvRefusal}

-- how many bytes or entries a call wrote; the text, and the run of entries and these
abbrev pub how_many : CallLeft → ℕ
how_many d = result_unwrap_or d.answer 0

abbrev pub text_of : CallLeft → List ℕ
text_of d = take (how_many d) d.area

abbrev pub run_of : CallLeft → List ℕ
run_of d = take (32 * how_many d) d.area

abbrev pub entries_of : CallLeft → List Entry
entries_of d = entries (how_many d) d.area

-- ---- import, in both directions

-- An import that is done: the file is the table of the entries that it left.
abbrev pub AcceptsOnly : (file : List ℕ) → CallLeft → Type 0
AcceptsOnly file d = (n : ℕ) → d.answer ≡ Ok n → IsTable (entries n d.area) file

-- A file that is the table of some entries: these are what an import gives, into any area that holds them; want of room is all that can refuse it.
abbrev pub AcceptsAll : (es : List Entry) (file : List ℕ) → Type 0
AcceptsAll es file = (area : List ℕ) → import_call file area ≡ importing es area

-- ---- the first bad row

-- the fields that row i of a table can have; row 0 is the header
abbrev pub IsRow : (i : ℕ) (row : List (List ℕ)) → Type 0
IsRow zero row = row ≡ header_words
IsRow (suc i) row = (e : Entry) × Sendable e × (row ≡ entry_fields (suc i) e)

-- a text that begins with such a row: the row is all of it, or CRLF follows
abbrev pub BeginsWith : (i : ℕ) (s : List ℕ) → Type 0
BeginsWith i s = (row : List (List ℕ)) × (a b : List ℕ) × IsRow i row × RowText row a × ((s ≡ a) ⊎ (s ≡ a ++ crlf ++ b))

-- Row number r, the header being 1, is the first bad one: the rows before it are those of a table, something is left where the header isn't bad, and that doesn't
-- begin with a row r of any table.
pub record FirstBad (r : ℕ) (file : List ℕ) : Type 0 where
  pub rows : List (List (List ℕ))
  pub before : List ℕ
  pub rest : List ℕ
  pub is : file ≡ before ++ rest
  pub count : length rows + 1 ≡ r
  pub good : RowsText rows before
  pub of-table : (es : List Entry) × All Sendable es × (rows ≡ take (length rows) (table es))
  pub left : rest ≡ [] → r ≡ 1
  pub bad : BeginsWith (r - 1) rest → ⊥

-- ---- round trips

-- What was exported of a run is imported, into any area that holds it: the very run.
abbrev pub ImportsBack : (run area : List ℕ) → Type 0
ImportsBack run area =
    (into : List ℕ) → length run ≤ length into
    → import_call (text_of (export_call run area)) into ≡ record { answer = Ok (run_count run); area = over run into }

-- What was imported of a file is exported, into any area that holds it: the table of the same entries, with no quotes and every CRLF.
abbrev pub ExportsBack : (file area : List ℕ) → Type 0
ExportsBack file area =
    (into : List ℕ) → length (exported (entries_of (import_call file area))) ≤ length into
    → export_call (run_of (import_call file area)) into
    ≡ record {
      answer = Ok (length (exported (entries_of (import_call file area))));
      area = over (exported (entries_of (import_call file area))) into;
    }

-- ---- refused calls

abbrev pub UntouchedByRefusal : (area : List ℕ) → CallLeft → Type 0
UntouchedByRefusal area d = (r : CsvRefusal) → d.answer ≡ Err r → d.area ≡ area
