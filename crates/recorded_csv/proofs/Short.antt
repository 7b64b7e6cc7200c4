-- Export with the figures of a number counted down from 20, which antt can compute: `decimal n` counts down from n, and of 18446744073709551615 that has no end.
--     short-is             the figures of a number are the same, however many are taken apart first
--     short-exports        so is what export answers and leaves
-- Assumes nothing.
use mathlib.Core.Path.{◌≡◌, refl, ap, ◌∙◌}
use mathlib.Core.Bool.{not}
use mathlib.Core.List.{List, [], ◌∷◌, ◌++◌, map}
use Prim.Native.Nat.{ℕ, zero, suc, ◌/◌, ◌%◌}
use borrow.Author.Tests.{lt-ltb, le-ltb}
use lib.Dec.{ltb}
use Rattle.numbers.specs.Words.{when◌then◌else◌}
use Rattle.numbers.specs.Cells.{packed}
use Rattle.entries.specs.Entries.{entries, run_count, run_ok}
use Rattle.entries.specs.declared.Entry.{Entry}
use Rattle.decimal.specs.Decimal.{figure, decimal}
use Rattle.decimal.proofs.FigureLaws.{by_size, decimal-one, decimal-more}
use Rattle.csv_table.specs.Table.{header_words, kind_word, entry_fields, entry_rows_after, table, plain_row, exported}
use Rattle.csv_table.specs.Calls.{refused, exporting, export_call}
use Rattle.csv_table.specs.declared.refusal.CsvRefusal.TheVariants.{BadEntry}
use Rattle.recorded_csv.specs.Shape.{RecordedAnswer, as_recorded, lent_area, ToExport, export_of}

-- k figures of a number from its last on, and the others as `decimal` has them
unfoldable pub short : (k n : ℕ) → List ℕ
short zero n = decimal n
short (suc k) n = when ltb n 10 then figure n ∷ [] else short k (n / 10) ++ figure (n % 10) ∷ []

pub short-is : (k n : ℕ) → decimal n ≡ short k n
unfolding short when◌then◌else◌
short-is zero n = refl
short-is (suc k) n =
    by_size n
    (λ l. rw (le-ltb n 10 l) (decimal-more n l ∙ ap (λ (s : List ℕ). s ++ figure (n % 10) ∷ []) (short-is k (n / 10))))
    (λ l. rw (lt-ltb n 10 l) (decimal-one n l))

-- the same rows and calls as in csv_table, by it
unfoldable pub short_row : (op : ℕ) → Entry → List (List ℕ)
short_row op e =
    short 20 op ∷ short 20 e.client ∷ short 20 e.request ∷ kind_word e.operation ∷ short 20 e.member ∷ short 20 e.cents ∷ []

unfoldable pub short_rows : (i : ℕ) → List Entry → List (List (List ℕ))
short_rows i [] = []
short_rows i (e ∷ es) = short_row (suc i) e ∷ short_rows (suc i) es

unfoldable pub short_export : ToExport → RecordedAnswer
short_export x =
    as_recorded
    (when not (run_ok x.run) then refused BadEntry (lent_area x.room) else
    exporting (packed plain_row (header_words ∷ short_rows 0 (entries (run_count x.run) x.run))) (lent_area x.room))

row_is : (op : ℕ) (e : Entry) → entry_fields op e ≡ short_row op e
unfolding entry_fields short_row
row_is op e = rw (short-is 20 op, short-is 20 e.client, short-is 20 e.request, short-is 20 e.member, short-is 20 e.cents)

rows_are : (i : ℕ) (es : List Entry) → entry_rows_after i es ≡ short_rows i es
unfolding entry_rows_after short_rows
rows_are i [] = refl
rows_are i (e ∷ es) = rw (row_is (suc i) e, rows_are (suc i) es)

export_is : (x : ToExport) → export_of x ≡ short_export x
unfolding export_of export_call exported table short_export
export_is x = rw (rows_are 0 (entries (run_count x.run) x.run))

pub short-exports : (xs : List ToExport) → map export_of xs ≡ map short_export xs
short-exports [] = refl
short-exports (x ∷ xs) = rw (export_is x, short-exports xs)
