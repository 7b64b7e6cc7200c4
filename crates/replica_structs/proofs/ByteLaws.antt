-- Rows of structs, and the same rows in bytes.
--     blank_ok                           unused rows are rows as they are to be
--     followed_same, followed-ok         what a call changes, in both forms
--     told-alike                         what is told of a client is the same from both
--     bytes-long, rows-read, blank-bytes    rows written as bytes, and read again; unused ones
-- Assumes nothing.
use Rattle.std.specs.Prelude.{◌≡◌, ℕ, zero, suc, ◌*◌, true, not, eqb, List, [], ◌∷◌, ◌++◌, map, length, replicate}
use mathlib.Core.Path.{refl, sym, ap, ◌∙◌, subst}
use mathlib.Core.Bool.{false≢true}
use mathlib.Core.List.{append-nil}
use native.Mathlib.Omega.{arith}
use lib.ListN.{length-map, drop_of_length-le}
use borrow.Author.Tests.{ne_eqb}
use Rattle.numbers.specs.Words.{◌and◌, All}
use Rattle.numbers.specs.Numbers.{over, within}
use Rattle.numbers.specs.Cells.{packed}
use Rattle.numbers.proofs.WordLaws.{and_left, if-false}
use Rattle.numbers.proofs.CellLaws.{packed-length}
use Rattle.entries.specs.Entries.{EntryFits}
use Rattle.entries.specs.declared.Entry.{Entry}
use Rattle.fees.specs.Results.{ResultFits}
use Rattle.fees.specs.declared.Outcome.{Outcome}
use Rattle.client_table.specs.Found.{found_in, latest_of}
use Rattle.client_table.specs.Rows.{spot_of, is_there, followed}
use Rattle.client_table.specs.Shape.{row_at}
use Rattle.client_table.specs.Latest.{kept_of}
use Rattle.client_table.specs.declared.Change.{Change}
use Rattle.client_table.proofs.FindLaws.{latest-found}
use Rattle.client_table.proofs.LatestLaws.{latest-same}
use Rattle.client_table.proofs.AlikeLaws.{Alike, Both, Coded, spot-row, there-alike, followed-alike}
use Rattle.client_table_bytes.specs.Layout.{byte_row, row_of, encode_row, rows_of, no_row}
use Rattle.client_table_bytes.specs.Steps.{RowFits}
use Rattle.client_table_bytes.specs.declared.MarkedRow as T
use Rattle.client_table_bytes.proofs.LayoutLaws.{row-codec, left-cleared}
use Rattle.client_table_structs.specs.Shape.{unused_row, struct_row, is_used, reply_in, latest_among}
use Rattle.client_table_structs.specs.declared.Row.{Row}
use Rattle.client_table_structs.specs.declared.KeptReply.{KeptReply}
use Rattle.client_table_structs.specs.declared.KeptReply.TheVariants.{Unused, Waiting, Kept}
use Rattle.replica.proofs.RowLaws.{followed-fits, read_back}
use Rattle.replica_structs.specs.Promise.{mark_of, total_in, byte_of, table_bytes, ReplyOk, RowsOk}

-- ---- a row

-- a row that is of an outcome, and its bytes
abbrev Is : Row → T.MarkedRow → Type 0
Is x y = ReplyOk x.reply × (byte_of x ≡ y)

used-same : (k : KeptReply) → ReplyOk k → is_used k ≡ not (eqb (mark_of k) 0)
unfolding is_used mark_of
used-same Unused r = refl
used-same Waiting r = refl
used-same (Kept c t) r = ap not (sym (ne_eqb c 0 (λ e. omega (arith, e, r.0))))

kept_same : (k : KeptReply) → is_used k ≡ true → reply_in k ≡ kept_of (mark_of k) (total_in k)
unfolding is_used reply_in mark_of total_in kept_of within ◌and◌
kept_same Unused u = absurd (false≢true u)
kept_same Waiting u = sym (if-false _ _ _ refl)
kept_same (Kept c t) u = refl

struct-alike : Alike struct_row byte_row Is
unfolding byte_of mark_of total_in
struct-alike =
    record {
      used = λ x y i. used-same x.reply i.0 ∙ ap (λ (z : T.MarkedRow). not (eqb z.mark 0)) i.1;
      client = λ x y i. ap (λ (z : T.MarkedRow). z.client) i.1;
      request = λ x y i. ap (λ (z : T.MarkedRow). z.request) i.1;
      blank = (tt, refl);
      fresh = λ e. (tt, refl);
      answered = λ e o l m. ((l, m), refl);
    }

-- ---- rows

abbrev Same : List Row → List T.MarkedRow → Type 0
Same xs ys = Both struct_row byte_row Is xs ys

all_both : (xs : List Row) → RowsOk xs → Same xs (map byte_of xs)
all_both [] ok = tt
all_both (x ∷ xs) ok = ((ok.0.reply, refl), all_both xs ok.1)

both-map : (xs : List Row) (ys : List T.MarkedRow) → Same xs ys → map byte_of xs ≡ ys
both-map [] [] b = refl
both-map [] (y ∷ ys) b = absurd b
both-map (x ∷ xs) [] b = absurd b
both-map (x ∷ xs) (y ∷ ys) b = λ i. b.0.1 i ∷ both-map xs ys b.1 i

both_ok : (xs : List Row) (ys : List T.MarkedRow) → Same xs ys → All RowFits ys → RowsOk xs
both_ok [] [] b f = tt
both_ok [] (y ∷ ys) b f = absurd b
both_ok (x ∷ xs) [] b f = absurd b
both_ok (x ∷ xs) (y ∷ ys) b f =
    (record { reply = b.0.0; fits = subst RowFits (sym b.0.1) f.0 }, both_ok xs ys b.1 f.1)

rows_fit : (xs : List Row) → RowsOk xs → All RowFits (map byte_of xs)
rows_fit [] ok = tt
rows_fit (x ∷ xs) ok = (ok.0.fits, rows_fit xs ok.1)

pub blank_ok : (n : ℕ) → RowsOk (replicate n unused_row)
unfolding byte_of mark_of total_in
blank_ok zero = tt
blank_ok (suc n) =
    (record { reply = tt; fits = record { client = omega arith; request = omega arith; mark = omega arith; total = omega arith } }, blank_ok n)

module _ (k : Change) (xs : List Row) (ok : RowsOk xs) (log : List Entry) (os : List Outcome) (coded : Coded os) where
  abbrev now : List Row
  now = followed struct_row k xs log os

  abbrev there : List T.MarkedRow
  there = followed byte_row k (map byte_of xs) log os

  both : Same now there
  both = followed-alike struct_row byte_row Is struct-alike k xs (map byte_of xs) (all_both xs ok) log os coded

  pub followed_same : map byte_of (followed struct_row k xs log os) ≡ followed byte_row k (map byte_of xs) log os
  followed_same = both-map now there both

  pub followed-ok : All EntryFits log → All ResultFits os → RowsOk (followed struct_row k xs log os)
  followed-ok g r = both_ok now there both (followed-fits k (map byte_of xs) log os g r (rows_fit xs ok))

-- ---- what is told of a client

pub told-alike : (xs : List Row) → RowsOk xs → (c : ℕ) → latest_among xs c ≡ latest_of byte_row (found_in byte_row (map byte_of xs) c)
unfolding is_there byte_of
told-alike xs ok c =
    let b = all_both xs ok in
    let x : Row = row_at struct_row xs (spot_of struct_row xs c) in
    let i = spot-row struct_row byte_row Is struct-alike xs (map byte_of xs) b c c refl in
    latest-found struct_row xs c
    ∙ latest-same _ _ _ _ _ _ (there-alike struct_row byte_row Is struct-alike xs (map byte_of xs) b c c refl)
    (λ t. (
      ap (λ (z : T.MarkedRow). z.request) i.1,
      kept_same x.reply (and_left _ _ t) ∙ ap (λ (z : T.MarkedRow). kept_of z.mark z.total) i.1,
    ))
    ∙ sym (latest-found byte_row (map byte_of xs) c)

-- ---- rows in bytes

pub bytes-long : (xs : List Row) → length (table_bytes xs) ≡ 25 * length xs
unfolding table_bytes
bytes-long xs = packed-length 25 row_of encode_row RowFits row-codec (map byte_of xs) ∙ ap (λ (n : ℕ). 25 * n) (length-map xs byte_of)

pub rows-read : (xs : List Row) → RowsOk xs → rows_of (length xs) (table_bytes xs) ≡ map byte_of xs
unfolding table_bytes
rows-read xs ok =
    ap (λ (n : ℕ). rows_of n (packed encode_row (map byte_of xs))) (sym (length-map xs byte_of))
    ∙ ap (rows_of (length (map byte_of xs))) (sym (append-nil (packed encode_row (map byte_of xs))))
    ∙ read_back (map byte_of xs) [] (rows_fit xs ok)

map-blank : (n : ℕ) → map byte_of (replicate n unused_row) ≡ replicate n no_row
unfolding byte_of mark_of total_in
map-blank zero = refl
map-blank (suc n) = ap (λ (l : List T.MarkedRow). no_row ∷ l) (map-blank n)

-- all rows unused
pub blank-bytes : (xs : List Row) → over (replicate (25 * length xs) 0) (table_bytes xs) ≡ table_bytes (replicate (length xs) unused_row)
unfolding table_bytes
blank-bytes xs =
    (left-cleared (length xs) {s = table_bytes xs} refl).bytes
    ∙ ap (λ (l : List ℕ). packed encode_row (replicate (length xs) no_row) ++ l)
    (drop_of_length-le (table_bytes xs) {i = 25 * length xs} (omega (arith, bytes-long xs)))
    ∙ append-nil (packed encode_row (replicate (length xs) no_row))
    ∙ ap (packed encode_row) (sym (map-blank (length xs)))
