-- Export and import at the C boundary: the same answers, as numbers. Assumes nothing.
use Rattle.std.specs.Prelude.{List, [], ◌∷◌, ℕ, Result, Ok, Err}
use Rattle.csv_table.specs.Refusal.{csv_refusal_number, field_fault_number}
use Rattle.csv_table.specs.declared.refusal.CsvRefusal.{CsvRefusal}
use Rattle.csv_table.specs.declared.refusal.CsvRefusal.TheVariants.{BadEntry, NoRoom, BadRow}

-- what the call returns: 0 where it is done, else the refusal's number
abbrev pub csv_code : Result ℕ CsvRefusal → ℕ
csv_code (Ok n) = 0
csv_code (Err r) = csv_refusal_number r

-- its five numbers: how many bytes or entries it wrote; and of a bad row its number, the column of its first bad field, what is wrong with that, and where in the
-- file it begins
abbrev pub numbers_of : Result ℕ CsvRefusal → List ℕ
numbers_of (Ok n) = n ∷ 0 ∷ 0 ∷ 0 ∷ 0 ∷ []
numbers_of (Err BadEntry) = 0 ∷ 0 ∷ 0 ∷ 0 ∷ 0 ∷ []
numbers_of (Err NoRoom) = 0 ∷ 0 ∷ 0 ∷ 0 ∷ 0 ∷ []
numbers_of (Err (BadRow row column fault offset)) = 0 ∷ row ∷ column ∷ field_fault_number fault ∷ offset ∷ []
