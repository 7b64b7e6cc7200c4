-- What export writes is a text of its table: every field plain, every row with its CRLF.
--     exported-is      the table of entries that can be sent
-- Assumes nothing.
use mathlib.Core.Path.{refl}
use mathlib.Core.List.{List, [], ◌∷◌, ◌++◌, append-nil}
use mathlib.Core.Logic.{inl, inr}
use Prim.Native.Nat.{ℕ, suc}
use native.Mathlib.Omega.{arith}
use Rattle.numbers.specs.Words.{All}
use Rattle.numbers.specs.Cells.{packed}
use Rattle.entries.specs.Entries.{Sendable}
use Rattle.entries.specs.declared.Entry.{Entry}
use Rattle.csv_table.specs.Rows.{crlf, RowText, FileText}
use Rattle.csv_table.specs.Table.{header_words, entry_fields, entry_rows_after, table, joined_fields, plain_row, exported, IsTable}
use Rattle.csv_table.proofs.SenseLaws.{Some-text, decimal-text, kind-text, header-text}

-- a row of one field or more, each text of a plain field
abbrev Plain : List (List ℕ) → Type 0
Plain [] = ⊥
Plain (f ∷ fs) = Some-text f × All Some-text fs

joined-text : (fs : List (List ℕ)) → Plain fs → RowText fs (joined_fields fs)
unfolding RowText joined_fields
joined-text [] x = absurd x
joined-text (f ∷ []) x = inl (refl, x.0.text)
joined-text (f ∷ g ∷ fs) x = (f, joined_fields (g ∷ fs), refl, inl (refl, x.0.text), joined-text (g ∷ fs) x.1)

header-plain : Plain header_words
unfolding header_words
header-plain = (
  header-text 0 (omega arith),
  (header-text 1 (omega arith), (header-text 2 (omega arith), (header-text 3 (omega arith), (header-text 4 (omega arith), (header-text 5 (omega arith), tt))))),
)

entry-plain : (op : ℕ) (e : Entry) → Plain (entry_fields op e)
unfolding entry_fields
entry-plain op e = (
  decimal-text op,
  (decimal-text e.client, (decimal-text e.request, (kind-text e.operation, (decimal-text e.member, (decimal-text e.cents, tt))))),
)

plain-file : (r : List (List ℕ)) (rs : List (List (List ℕ))) → Plain r → All Plain rs → FileText (r ∷ rs) (packed plain_row (r ∷ rs))
unfolding FileText packed plain_row
plain-file r [] x xs = (joined_fields r, joined-text r x, inr (append-nil (joined_fields r ++ crlf)))
plain-file r (q ∷ rs) x xs = (joined_fields r, packed plain_row (q ∷ rs), refl, joined-text r x, plain-file q rs xs.0 xs.1)

rows-plain : (i : ℕ) (es : List Entry) → All Plain (entry_rows_after i es)
unfolding entry_rows_after
rows-plain i [] = tt
rows-plain i (e ∷ es) = (entry-plain (suc i) e, rows-plain (suc i) es)

pub exported-is : (es : List Entry) → All Sendable es → IsTable es (exported es)
unfolding exported table
exported-is es k = record { text = plain-file header_words (entry_rows_after 0 es) header-plain (rows-plain 0 es); sendable = k }
