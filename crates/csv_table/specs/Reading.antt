-- How a file is read: six fields a row, row after row up to the first bad one, until nothing is left. Rows and fields count from 0 here, row 0 being the header
-- and row i that of op i. Assumes nothing.
use Rattle.std.specs.Prelude.{Result, Ok, Err, List, [], ◌∷◌, ℕ, zero, suc, ◌+◌, eqb, length, get_or, set, drop, replicate}
use Rattle.numbers.specs.Words.{when◌then◌else◌}
use Rattle.entries.specs.declared.Entry.{Entry}
use Rattle.csv_table.specs.Refusal.{◌>>=◌}
use Rattle.csv_table.specs.Fields.{field_told}
use Rattle.csv_table.specs.declared.refusal.FieldFault.{FieldFault}
use Rattle.csv_table.specs.declared.refusal.CsvRefusal.{CsvRefusal}
use Rattle.csv_table.specs.declared.refusal.CsvRefusal.TheVariants.{BadRow}
use Rattle.csv_table.specs.declared.FieldRead.{FieldRead}
use Rattle.csv_table.specs.declared.BadField.{BadField}
use Rattle.csv_table.specs.declared.RowRead.{RowRead}

-- what the six fields say, none yet; and the entry that they make
abbrev pub no_values : List ℕ
no_values = replicate 6 0

abbrev pub entry_of_values : (values : List ℕ) → Entry
entry_of_values vs =
    record { client = get_or vs 1 0; request = get_or vs 2 0; operation = get_or vs 3 0; member = get_or vs 4 0; cents = get_or vs 5 0 }

-- a row that takes so many bytes
abbrev pub good_row : (used : ℕ) (values : List ℕ) → Result RowRead BadField
good_row n vs = Ok (record { used = n; entry = entry_of_values vs })

-- a field, or what is wrong with it in field number k, from 1 on, p bytes behind the row's beginning
abbrev pub field_of_row : (column p : ℕ) → Result FieldRead FieldFault → Result FieldRead BadField
field_of_row k p (Ok t) = Ok t
field_of_row k p (Err f) = Err (record { fault = f; column = k; place = p })

-- what is left of row i behind its first k fields, which took p bytes and said these values; n more come
unfoldable pub row_from : (n k i : ℕ) (vs : List ℕ) (p : ℕ) (s : List ℕ) → Result RowRead BadField
row_from zero k i vs p s = good_row p vs
row_from (suc n) k i vs p s = do
  t ← field_of_row (k + 1) p (field_told i k (get_or vs 3 0) s)
  row_from n (suc k) i (set vs k t.value) (p + t.used) (drop t.used s)

-- row i, at the front
unfoldable pub row_in : (i : ℕ) → List ℕ → Result RowRead BadField
row_in i s = row_from 6 0 i no_values 0 s

-- a row, or that it is the bad one: row number r of the file, the header being 1, which begins behind p bytes
abbrev pub row_of_file : (r p : ℕ) → Result RowRead BadField → Result RowRead CsvRefusal
row_of_file r p (Ok x) = Ok x
row_of_file r p (Err b) = Err (BadRow r b.column b.fault (p + b.place))

-- What is left of a file behind i good rows, which took p bytes, where at most so many come: how many rows the file has, or which is the first bad one. A row
-- takes a byte or more.
unfoldable pub scanned_after : (most i p : ℕ) (s : List ℕ) → Result ℕ CsvRefusal
scanned_after zero i p s = Ok i
scanned_after (suc n) i p s = do
  r ← row_of_file (suc i) p (row_in i s)
  when eqb (length (drop r.used s)) 0 then Ok (suc i) else scanned_after n (suc i) (p + r.used) (drop r.used s)

unfoldable pub scanned : (file : List ℕ) → Result ℕ CsvRefusal
scanned file = scanned_after (suc (length file)) 0 0 file

-- what a good row gives; a bad one nothing
abbrev pub of_good : (RowRead → List Entry) → Result RowRead BadField → List Entry
of_good f (Ok r) = f r
of_good f (Err b) = []

-- the entries of n rows, from row i on
unfoldable pub row_entries : (n i : ℕ) (s : List ℕ) → List Entry
row_entries zero i s = []
row_entries (suc n) i s = of_good (λ r. r.entry ∷ row_entries n (suc i) (drop r.used s)) (row_in i s)

-- those of the first n rows behind the header
unfoldable pub table_entries : (n : ℕ) (file : List ℕ) → List Entry
table_entries n file = of_good (λ r. row_entries n 1 (drop r.used file)) (row_in 0 file)
