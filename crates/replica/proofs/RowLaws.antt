-- Rows that are read back: each row of the client table fits its 25 bytes again after it has followed a log and results in bytes.
--     rows_fit, results_fit    what bytes say fits
--     followed-fits            every row after a change
--     read-back                rows in bytes, read again
-- Assumes nothing.
use mathlib.Core.Path.{◌≡◌, refl, ap, ◌∙◌}
use mathlib.Core.List.{List, [], ◌∷◌, ◌++◌, append_assoc}
use Prim.Native.Nat.{ℕ, zero, suc, ◌+◌, ◌-◌, ◌^◌, ◌<◌}
use native.Mathlib.Omega.{arith}
use lib.ListN.{length, take, drop, replicate}
use Rattle.numbers.specs.Words.{All}
use Rattle.numbers.specs.Numbers.{Bytes}
use Rattle.numbers.specs.Cells.{cells, packed}
use Rattle.numbers.proofs.WordLaws.{split}
use Rattle.numbers.proofs.NumberLaws.{drop-bytes}
use Rattle.numbers.proofs.CellLaws.{cells-one}
use Rattle.entries.specs.Entries.{EntryFits}
use Rattle.entries.specs.declared.Entry.{Entry}
use Rattle.entries.proofs.SendableLaws.{num-fits}
use Rattle.fees.specs.Results.{result_of, ResultFits, outcomes}
use Rattle.fees.specs.declared.Outcome.{Outcome}
use Rattle.client_table.specs.Rows.{stored, inserted, put_row, appended, replied, rows_committed, rebuilt, followed}
use Rattle.client_table.specs.Shape.{row_at}
use Rattle.client_table.specs.declared.Change.{Change}
use Rattle.client_table_bytes.specs.Layout.{no_row, byte_row, fresh_of, row_with, row_of, encode_row, rows_of}
use Rattle.client_table_bytes.specs.Steps.{RowFits}
use Rattle.client_table_bytes.specs.declared.MarkedRow.{MarkedRow}
use Rattle.client_table_bytes.proofs.LayoutLaws.{row-codec}
use Rattle.safety.proofs.Changes.{all_append, all_take, all_drop}

-- ---- what bytes say fits

row_fits : (s : List ℕ) → Bytes s → RowFits (row_of s)
unfolding row_of
row_fits s b =
    record { client = num-fits 8 0 s b; request = num-fits 8 8 s b; mark = num-fits 1 16 s b; total = num-fits 8 17 s b }

result_fits : (s : List ℕ) → Bytes s → ResultFits (result_of s)
unfolding result_of
result_fits s b = record { code = num-fits 1 0 s b; total = num-fits 8 1 s b }

cells_fit : {A : Type 0} (w : ℕ) (get : List ℕ → A) (Fits : A → Type 0) → ((s : List ℕ) → Bytes s → Fits (get s)) → (k : ℕ) (s : List ℕ)
    → Bytes s → All Fits (cells w get k s)
unfolding cells
cells_fit w get Fits f zero s b = tt
cells_fit w get Fits f (suc k) s b = (f s b, cells_fit w get Fits f k (drop w s) (drop-bytes w s b))

pub rows_fit : (n : ℕ) (s : List ℕ) → Bytes s → All RowFits (rows_of n s)
rows_fit n s b = cells_fit 25 row_of RowFits row_fits n s b

pub results_fit : (k : ℕ) (s : List ℕ) → Bytes s → All ResultFits (outcomes k s)
results_fit k s b = cells_fit 9 result_of ResultFits result_fits k s b

-- ---- a row more

abbrev Fit : List MarkedRow → Type 0
Fit xs = All RowFits xs

row-of : (e : Entry) (mark total : ℕ) → EntryFits e → mark < 2 ^ 8 → total < 2 ^ 64 → RowFits (row_with e mark total)
row-of e mark total f m t = record { client = f.client; request = f.request; mark = m; total = t }

fresh-fits : (e : Entry) → EntryFits e → RowFits (fresh_of e)
fresh-fits e f = row-of e 255 0 f (omega arith) (omega arith)

row-at-fits : (xs : List MarkedRow) (i : ℕ) → Fit xs → RowFits (row_at byte_row xs i)
row-at-fits [] i f = record { client = omega arith; request = omega arith; mark = omega arith; total = omega arith }
row-at-fits (x ∷ xs) zero f = f.0
row-at-fits (x ∷ xs) (suc i) f = row-at-fits xs i f.1

stored-fits : (at to : ℕ) (r : MarkedRow) (xs : List MarkedRow) → RowFits r → Fit xs → Fit (stored byte_row at to r xs)
unfolding stored
stored-fits at to r xs g f =
    let mid : Fit (take (to - at) (drop at xs)) = all_take RowFits (to - at) _ (all_drop RowFits at xs f) in
    all_append RowFits (take at xs ++ r ∷ take (to - at) (drop at xs)) (drop (to + 1) xs)
    (all_append RowFits (take at xs) (r ∷ take (to - at) (drop at xs)) (all_take RowFits at xs f) (g, mid))
    (all_drop RowFits (to + 1) xs f)

put-fits : (xs : List MarkedRow) (r : MarkedRow) → RowFits r → Fit xs → Fit (put_row byte_row xs r)
unfolding put_row inserted
put-fits xs r g f =
    split Fit _ _ _ (λ _. stored-fits _ _ r xs g f) λ _.
    split Fit _ _ _ (λ _. f) (λ _. stored-fits _ _ r xs g f)

-- ---- all that a call changes

appended-fits : (xs : List MarkedRow) (es : List Entry) → All EntryFits es → Fit xs → Fit (appended byte_row xs es)
unfolding appended
appended-fits xs [] g f = f
appended-fits xs (e ∷ es) g f = appended-fits (put_row byte_row xs (byte_row.fresh e)) es g.1 (put-fits xs (fresh_of e) (fresh-fits e g.0) f)

replied-fits : (xs : List MarkedRow) (e : Entry) (o : Outcome) → EntryFits e → ResultFits o → Fit xs → Fit (replied byte_row xs e o)
unfolding replied
replied-fits xs e o g k f =
    split Fit _ _ _ (λ _. stored-fits _ _ _ xs (row-of e o.code o.total g k.code k.total) f) (λ _. f)

committed-fits : (xs : List MarkedRow) (es : List Entry) (os : List Outcome) → All EntryFits es → All ResultFits os → Fit xs
    → Fit (rows_committed byte_row xs es os)
unfolding rows_committed
committed-fits xs [] os g k f = f
committed-fits xs (e ∷ es) [] g k f = f
committed-fits xs (e ∷ es) (o ∷ os) g k f = committed-fits (replied byte_row xs e o) es os g.1 k.1 (replied-fits xs e o g.0 k.0 f)

rebuilt-fits : (new : List MarkedRow) (es : List Entry) (os : List Outcome) → All EntryFits es → All ResultFits os → Fit new
    → Fit (rebuilt byte_row new es os)
unfolding rebuilt
rebuilt-fits new [] os g k f = f
rebuilt-fits new (e ∷ es) [] g k f = rebuilt-fits (put_row byte_row new (byte_row.fresh e)) es [] g.1 k (put-fits new _ (fresh-fits e g.0) f)
rebuilt-fits new (e ∷ es) (o ∷ os) g k f =
    rebuilt-fits (put_row byte_row new (byte_row.answered e o)) es os g.1 k.1 (put-fits new _ (row-of e o.code o.total g.0 k.0.code k.0.total) f)

blank-fits : (n : ℕ) → Fit (replicate n no_row)
blank-fits zero = tt
blank-fits (suc n) = (row-at-fits [] 0 tt, blank-fits n)

pub followed-fits : (k : Change) (xs : List MarkedRow) (log : List Entry) (os : List Outcome) → All EntryFits log → All ResultFits os → All RowFits xs
    → All RowFits (followed byte_row k xs log os)
unfolding followed
followed-fits k xs log os g h f =
    split Fit _ _ _ (λ _. rebuilt-fits _ log os g h (blank-fits (length xs)))
    (λ _.
    committed-fits _ _ _ (all_drop EntryFits k.commit.0 log g) (all_drop ResultFits k.commit.0 os h)
    (appended-fits xs (drop k.op.0 log) (all_drop EntryFits k.op.0 log g) f))

-- ---- rows in bytes, read again

pub read_back : (xs : List MarkedRow) (rest : List ℕ) → All RowFits xs → rows_of (length xs) (packed encode_row xs ++ rest) ≡ xs
unfolding packed cells
read_back [] rest f = refl
read_back (x ∷ xs) rest f =
    rw append_assoc
    (cells-one 25 row_of encode_row RowFits row-codec (length xs) x (packed encode_row xs ++ rest) f.0
    ∙ ap (λ (l : List MarkedRow). x ∷ l) (read_back xs rest f.1))
