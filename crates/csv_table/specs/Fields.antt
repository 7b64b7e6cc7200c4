-- How a field of a file is read, from the front of what is left of it: where it stands, how it ends, and what it says. No field of the table holds a quote, a
-- comma, CR or LF, so a field is read up to the first of them. Assumes nothing.
use Rattle.std.specs.Prelude.{Bool, true, false, not, Option, Some, None, Result, Ok, Err, ok_or, option_and_then, List, [], ◌∷◌, ℕ, suc, ◌+◌, eqb, length, get_or, take, drop}
use Rattle.std.specs.Bool.{then_some}
use Rattle.std.specs.Cmp.Lexicographic.{pointwise}
use Rattle.numbers.specs.Words.{when◌then◌else◌, ◌and◌, ◌or◌}
use Rattle.entries.specs.Entries.{operation_ok}
use Rattle.decimal.specs.Decimal.{number_in}
use Rattle.csv_table.specs.Refusal.{◌>>=◌}
use Rattle.csv_table.specs.Rows.{quote, comma}
use Rattle.csv_table.specs.Table.{header_words, kind_word}
use Rattle.csv_table.specs.declared.refusal.FieldFault.{FieldFault}
use Rattle.csv_table.specs.declared.refusal.FieldFault.TheVariants.{Quotes, Value, TooShort, TooLong}
use Rattle.csv_table.specs.declared.FieldEnd.{FieldEnd}
use Rattle.csv_table.specs.declared.FieldEnd.TheVariants.{Comma, Line, File}
use Rattle.csv_table.specs.declared.Field.{Field}
use Rattle.csv_table.specs.declared.FieldRead.{FieldRead}

-- a byte that ends a content: a quote, a comma, CR or LF
unfoldable pub stops : ℕ → Bool
stops b = eqb b quote or eqb b comma or eqb b 13 or eqb b 10

-- how many bytes stand before the first of them
unfoldable pub stretch : List ℕ → ℕ
stretch [] = 0
stretch (b ∷ s) = when stops b then 0 else suc (stretch s)

-- how a field ends, by what stands behind it: a comma, CRLF, or nothing, the file's end; by nothing else
unfoldable pub ending : List ℕ → Option FieldEnd
ending s =
    when eqb (length s) 0 then Some File else
    when eqb (get_or s 0 0) comma then Some Comma else
    when eqb (get_or s 0 0) 13 and eqb (get_or s 1 0) 10 then Some Line else
    None

-- how many bytes that takes
abbrev pub ending_size : FieldEnd → ℕ
ending_size Comma = 1
ending_size Line = 2
ending_size File = 0

-- a field whose content begins at `start` and has n bytes, with q bytes behind it before its end; it is none where nothing ends it
abbrev pub field_as : (start n q : ℕ) → Option FieldEnd → Option Field
field_as a n q None = None
field_as a n q (Some k) = Some (record { start = a; size = n; used = a + n + q + ending_size k; ends = k })

unfoldable pub plain_field : List ℕ → Option Field
plain_field s = let n = stretch s in field_as 0 n 0 (ending (drop n s))

unfoldable pub quoted_field : List ℕ → Option Field
quoted_field s =
    let n = stretch (drop 1 s) in
    when eqb (get_or s (1 + n) 0) quote then field_as 1 n 1 (ending (drop (2 + n) s)) else None

-- the field at the front
unfoldable pub field_at_front : List ℕ → Option Field
field_at_front s = when eqb (get_or s 0 0) quote then quoted_field s else plain_field s

-- its content
abbrev pub content : Field → List ℕ → List ℕ
content f s = take f.size (drop f.start s)

-- ---- what a content says

abbrev pub same : (s t : List ℕ) → Bool
same s t = pointwise eqb s t

-- the op of this row
unfoldable pub row_op_in : (i : ℕ) → List ℕ → Option ℕ
row_op_in i t = option_and_then (λ n. then_some (eqb n i) n) (number_in i t)

-- an operation's number
unfoldable pub kind_in : List ℕ → Option ℕ
kind_in t =
    when same t (kind_word 1) then Some 1 else
    when same t (kind_word 2) then Some 2 else
    when same t (kind_word 3) then Some 3 else
    None

-- cents that the entry rules allow this operation
unfoldable pub cents_in : (operation : ℕ) → List ℕ → Option ℕ
cents_in o t = option_and_then (λ n. then_some (operation_ok o n) n) (number_in 1000000 t)

-- word k of the header, which says nothing but itself
unfoldable pub header_in : (k : ℕ) → List ℕ → Option ℕ
header_in k t = then_some (same t (get_or header_words k [])) 0

-- What a content says as field k of row i, both from 0 on; row 0 is the header. `o` is the operation of this row.
unfoldable pub sense : (i k o : ℕ) → List ℕ → Option ℕ
sense i k o t =
    when eqb i 0 then header_in k t else
    when eqb k 0 then row_op_in i t else
    when eqb k 3 then kind_in t else
    when eqb k 4 then number_in 4294967295 t else
    when eqb k 5 then cents_in o t else
    number_in 18446744073709551615 t

-- ---- a field judged

abbrev pub by_comma : FieldEnd → Bool
by_comma Comma = true
by_comma Line = false
by_comma File = false

-- A field that says this: the row goes on behind each but its last.
unfoldable pub judged_field : (last : Bool) → Field → (value : ℕ) → Result FieldRead FieldFault
judged_field last f v =
    when last and by_comma f.ends then Err TooLong else
    when not last and not (by_comma f.ends) then Err TooShort else
    Ok (record { value = v; used = f.used })

-- field k of row i, at the front
unfoldable pub field_told : (i k o : ℕ) → List ℕ → Result FieldRead FieldFault
field_told i k o s = do
  f ← ok_or (field_at_front s) Quotes
  v ← ok_or (sense i k o (content f s)) Value
  judged_field (eqb k 5) f v
