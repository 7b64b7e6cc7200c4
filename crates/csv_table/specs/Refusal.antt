-- Document 02, order 5: the numbers of what export and import are refused for, and of what is wrong with a field. Assumes nothing.
use Rattle.std.specs.Prelude.{ℕ, Result, Ok, Err}
use Rattle.csv_table.specs.declared.refusal.FieldFault.{FieldFault}
use Rattle.csv_table.specs.declared.refusal.FieldFault.TheVariants.{Quotes, Value, TooShort, TooLong}
use Rattle.csv_table.specs.declared.refusal.CsvRefusal.{CsvRefusal}
use Rattle.csv_table.specs.declared.refusal.CsvRefusal.TheVariants.{BadEntry, NoRoom, BadRow}

-- its quotes or what stands behind it; what it says; the row ends behind it too early; the row goes on behind its last field
abbrev pub field_fault_number : FieldFault → ℕ
field_fault_number Quotes = 1
field_fault_number Value = 2
field_fault_number TooShort = 3
field_fault_number TooLong = 4

-- an entry outside its rules; no room for the result; a bad row
abbrev pub csv_refusal_number : CsvRefusal → ℕ
csv_refusal_number BadEntry = 2
csv_refusal_number NoRoom = 9
csv_refusal_number (BadRow row column fault offset) = 13

-- a step behind one that went well
infixl 10 ◌>>=◌
abbrev pub ◌>>=◌ : {A B E : Type 0} → Result A E → (A → Result B E) → Result B E
Ok x >>= f = f x
Err e >>= f = Err e
