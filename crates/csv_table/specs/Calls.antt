-- Export and import as calls: what each answers and leaves. A refused call leaves every lent byte as it was. Refusals in their order: in export an entry outside
-- its rules; in import a bad row, the first one; and the result doesn't fit. Assumes nothing.
use Rattle.std.specs.Prelude.{not, Result, Ok, Err, List, ℕ, ◌-◌, ◌*◌, ltb, length}
use Rattle.numbers.specs.Words.{when◌then◌else◌}
use Rattle.numbers.specs.Numbers.{over}
use Rattle.numbers.specs.Cells.{packed}
use Rattle.entries.specs.Entries.{encode_entry, entries, run_count, run_ok}
use Rattle.entries.specs.declared.Entry.{Entry}
use Rattle.csv_table.specs.Table.{exported}
use Rattle.csv_table.specs.Reading.{scanned, table_entries}
use Rattle.csv_table.specs.declared.refusal.CsvRefusal.{CsvRefusal}
use Rattle.csv_table.specs.declared.refusal.CsvRefusal.TheVariants.{BadEntry, NoRoom}

-- how many bytes or entries the call wrote, or why it is refused; and the area that it left
pub record CallLeft : Type 0 where
  pub answer : Result ℕ CsvRefusal
  pub area : List ℕ

abbrev pub refused : CsvRefusal → (area : List ℕ) → CallLeft
refused r area = record { answer = Err r; area = area }

-- ---- export

-- a text over the front of the area, where it fits
unfoldable pub exporting : (text area : List ℕ) → CallLeft
exporting t area =
    when ltb (length area) (length t) then refused NoRoom area else
    record { answer = Ok (length t); area = over t area }

-- the table of a run of entries
unfoldable pub export_call : (run area : List ℕ) → CallLeft
export_call run area =
    when not (run_ok run) then refused BadEntry area else
    exporting (exported (entries (run_count run) run)) area

-- ---- import

-- entries over the front of the area, 32 bytes each, where they fit
unfoldable pub importing : List Entry → (area : List ℕ) → CallLeft
importing es area =
    when ltb (length area) (32 * length es) then refused NoRoom area else
    record { answer = Ok (length es); area = over (packed encode_entry es) area }

-- the entries behind the header of a file with so many rows, or what is wrong with it
unfoldable pub import_scanned : Result ℕ CsvRefusal → (file area : List ℕ) → CallLeft
import_scanned (Err r) file area = refused r area
import_scanned (Ok rows) file area = importing (table_entries (rows - 1) file) area

unfoldable pub import_call : (file area : List ℕ) → CallLeft
import_call file area = import_scanned (scanned file) file area
