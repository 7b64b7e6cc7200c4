-- What a field, a row and a file that are read give, with 0 for what a bad one doesn't; and which are good.
--     told_value, told_used, row_used, row_place, row_entry, bad_row_of      the parts
--     Good, bad-not, good-or-bad  a result that is `Ok`
-- Assumes nothing.
use mathlib.Core.Path.{◌≡◌, refl}
use mathlib.Core.Bool.{true, false, false≢true}
use mathlib.Core.Logic.{◌⊎◌, inl, inr}
use Prim.Native.Nat.{ℕ}
use Rattle.std.specs.Prelude.{Some, Result, Ok, Err}
use Rattle.std.specs.Result.{is_ok}
use Rattle.std.proofs.lemmas.Option.{cond_some}
use Rattle.entries.specs.declared.Entry.{Entry}
use Rattle.csv_table.specs.Reading.{no_values, entry_of_values}
use Rattle.csv_table.specs.declared.refusal.FieldFault.{FieldFault}
use Rattle.csv_table.specs.declared.refusal.CsvRefusal.{CsvRefusal}
use Rattle.csv_table.specs.declared.refusal.CsvRefusal.TheVariants.{BadEntry, NoRoom, BadRow}
use Rattle.csv_table.specs.declared.FieldRead.{FieldRead}
use Rattle.csv_table.specs.declared.RowRead.{RowRead}
use Rattle.csv_table.specs.declared.BadField.{BadField}

-- ---- an option

pub some-value : (a b : ℕ) → Some a ≡ Some b → a ≡ b
some-value a b e = (cond_some true a b e).1

-- ---- a result

abbrev pub Good : {A E : Type 0} → Result A E → Type 0
Good r = is_ok r ≡ true

pub bad-not : {P : Type 0} → false ≡ true → P
bad-not h = absurd (false≢true h)

-- good or not
pub good-or-bad : {A E : Type 0} (r : Result A E) → Good r ⊎ (Good r → ⊥)
good-or-bad (Ok x) = inl refl
good-or-bad (Err e) = inr false≢true

abbrev pub told_value : Result FieldRead FieldFault → ℕ
told_value (Ok t) = t.value
told_value (Err e) = 0

abbrev pub told_used : Result FieldRead FieldFault → ℕ
told_used (Ok t) = t.used
told_used (Err e) = 0

abbrev pub row_used : Result RowRead BadField → ℕ
row_used (Ok r) = r.used
row_used (Err b) = 0

abbrev pub row_place : Result RowRead BadField → ℕ
row_place (Ok r) = 0
row_place (Err b) = b.place

abbrev pub row_entry : Result RowRead BadField → Entry
row_entry (Ok r) = r.entry
row_entry (Err b) = entry_of_values no_values

-- the number of the bad row, where the file has one
abbrev pub bad_row_of : Result ℕ CsvRefusal → ℕ
bad_row_of (Ok n) = 0
bad_row_of (Err BadEntry) = 0
bad_row_of (Err NoRoom) = 0
bad_row_of (Err (BadRow row column fault offset)) = row
