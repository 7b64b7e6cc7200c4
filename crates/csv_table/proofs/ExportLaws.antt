-- Laws of the table as export writes it.
--     table_none, table_more, table-longer   the table of no entry, of one entry more, and its length
--     table-grows, table-most                the table of the first entries is no longer than that of more, and how long it can be
--     header-again, header-under             the header is written first, and what comes next stands over it
--     no_room, room_for, room-enough         whether the table fits, from its length, or from how long it can be
--     export-bad, export-long, export-done   the three ends of the call
-- Assumes nothing.
use mathlib.Core.Path.{◌≡◌, refl, sym, ap, ◌∙◌}
use mathlib.Core.Bool.{true, false, not}
use mathlib.Core.List.{List, [], ◌∷◌, ◌++◌, append-nil}
use Prim.Native.Nat.{ℕ, zero, suc, ◌+◌, ◌-◌, ◌*◌, ◌/◌, ◌^◌, ◌≤◌, ◌<◌}
use native.Mathlib.Nat.{add-zero, zero-add}
use native.Mathlib.Numerals.{add-one}
use native.Mathlib.Omega.{arith}
use borrow.Author.Tests.{le-leb, lt-leb, leb-false, lt-ltb, le-ltb}
use lib.Dec.{leb}
use lib.ListN.{length, drop, length-append}
use lib.Seq.{drop-drop, drop_at}
use Rattle.std.specs.Prelude.{Ok}
use Rattle.numbers.specs.Words.{when◌then◌else◌}
use Rattle.numbers.specs.Numbers.{Bytes, over, Wrote}
use Rattle.numbers.specs.Cells.{cells, packed}
use Rattle.numbers.proofs.NumberLaws.{drop-bytes}
use Rattle.numbers.proofs.CellLaws.{packed-append, cells-length}
use Rattle.entries.specs.Entries.{entry_of, entries, run_count, run_ok}
use Rattle.entries.specs.declared.Entry.{Entry}
use Rattle.entries.proofs.SendableLaws.{entry-fits}
use Rattle.csv_table.specs.Table.{header_words, entry_fields, entry_rows_after, table, joined_fields, plain_row, exported}
use Rattle.csv_table.specs.declared.refusal.CsvRefusal.TheVariants.{BadEntry, NoRoom}
use Rattle.csv_table.specs.Calls.{CallLeft, refused, exporting, export_call}
use Rattle.csv_table.proofs.ExportRowLaws.{row-most}

-- ---- the table

rows_more : (i : ℕ) (es : List Entry) (e : Entry) → entry_rows_after i (es ++ e ∷ []) ≡ entry_rows_after i es ++ entry_fields (suc (i + length es)) e ∷ []
unfolding entry_rows_after
rows_more i [] e = rw (add-zero i)
rows_more i (d ∷ es) e =
    let s : suc i + length es ≡ i + suc (length es) = omega arith in
    rw (rows_more (suc i) es e, s)

entries-more : (k : ℕ) (s : List ℕ) → entries (suc k) s ≡ entries k s ++ entry_of (drop (32 * k) s) ∷ []
unfolding cells
entries-more zero s = refl
entries-more (suc k) s =
    let e : 32 + 32 * k ≡ 32 * suc k = omega arith in
    ap (λ (t : List Entry). entry_of s ∷ t) (entries-more k (drop 32 s) ∙ rw (drop-drop, e))

packed-one : (r : List (List ℕ)) → packed plain_row (r ∷ []) ≡ plain_row r
unfolding packed
packed-one r = append-nil (plain_row r)

-- the table of the first i entries of a run
abbrev pub table_of : ℕ → List ℕ → List ℕ
table_of i s = exported (entries i s)

pub table_more : (i : ℕ) (s : List ℕ) (e : Entry) → e ≡ entry_of (drop (32 * i) s) → table_of i s ++ plain_row (entry_fields (i + 1) e) ≡ table_of (i + 1) s
unfolding exported table
table_more i s e p =
    sym
    (rw (add-one, entries-more i s, rows_more 0 (entries i s) (entry_of (drop (32 * i) s)), cells-length 32 entry_of i s, zero-add i, ← p)
    (packed-append plain_row (header_words ∷ entry_rows_after 0 (entries i s)) (entry_fields (suc i) e ∷ [])
    ∙ ap (λ (t : List ℕ). table_of i s ++ t) (packed-one (entry_fields (suc i) e))))

-- the header's bytes
abbrev pub header_bytes : List ℕ
header_bytes =
    111 ∷ 112 ∷ 44 ∷ 99 ∷ 108 ∷ 105 ∷ 101 ∷ 110 ∷ 116 ∷ 44 ∷ 114 ∷ 101 ∷ 113 ∷ 117 ∷ 101 ∷ 115 ∷ 116 ∷ 44 ∷ 107 ∷ 105 ∷ 110 ∷ 100 ∷ 44 ∷ 109 ∷ 101 ∷ 109 ∷ 98
    ∷ 101 ∷ 114 ∷ 44 ∷ 99 ∷ 101 ∷ 110 ∷ 116 ∷ 115 ∷ 13 ∷ 10 ∷ []

pub table_none : (s : List ℕ) → table_of 0 s ≡ header_bytes
unfolding exported table header_words entry_rows_after packed plain_row joined_fields cells
table_none s = refl

pub table-longer : (i : ℕ) (s : List ℕ) (e : Entry) → e ≡ entry_of (drop (32 * i) s)
    → length (table_of (i + 1) s) ≡ length (table_of i s) + length (plain_row (entry_fields (i + 1) e))
table-longer i s e p = ap length (sym (table_more i s e p)) ∙ length-append (table_of i s) (plain_row (entry_fields (i + 1) e))

grows-by : (i d : ℕ) (s : List ℕ) → length (table_of i s) ≤ length (table_of (i + d) s)
grows-by i zero s = rw (add-zero i) (omega arith)
grows-by i (suc d) s =
    let e : i + suc d ≡ i + d + 1 = omega arith in
    rw e (omega (arith, grows-by i d s, table-longer (i + d) s (entry_of (drop (32 * (i + d)) s)) refl))

pub table-grows : (i n : ℕ) (s : List ℕ) → i ≤ n → length (table_of i s) ≤ length (table_of n s)
table-grows i n s h =
    let e : i + (n - i) ≡ n = omega arith in
    rw e at (grows-by i (n - i) s)

pub table-most : (i : ℕ) (s : List ℕ) → Bytes s → i < 2 ^ 64 → length (table_of i s) ≤ 37 + 113 * i
table-most zero s b l = omega (arith, ap length (table_none s))
table-most (suc i) s b l =
    let e = entry_of (drop (32 * i) s) in
    let n : i + 1 ≡ suc i = omega arith in
    let m = rw n at (table-longer i s e refl) in
    omega (arith, m, table-most i s b (omega arith), row-most (suc i) e l (entry-fits (drop (32 * i) s) (drop-bytes (32 * i) s b)))

-- bytes over others, no fewer of them
over-again : (v w a : List ℕ) → length v ≤ length w → over w (over v a) ≡ over w a
unfolding over
over-again v w a h =
    let e : length v + (length w - length v) ≡ length w = omega arith in
    let p : drop (length w) (v ++ drop (length v) a) ≡ drop (length w) a =
    rw (← e, ← drop-drop, ← drop-drop, drop_at v (drop (length v) a) (length v) refl) in
    rw p

-- the header is written first, and stands under what comes next
module _ (s a : List ℕ) {cur : List ℕ} (p : cur ≡ over header_bytes a) where
  pub header-again : Wrote (table_of 0 s) cur cur 37
  header-again =
      let t = table_none s in
      record {
        bytes = p ∙ sym (over-again header_bytes header_bytes a (omega arith)) ∙ ap (over header_bytes) (sym p) ∙ ap (λ (w : List ℕ). over w cur) (sym t);
        count = sym (ap length t);
      }

  pub header-under : (i : ℕ) {after : List ℕ} {n : ℕ} → Wrote (table_of i s) cur after n → Wrote (table_of i s) a after n
  header-under i w =
      let g : length header_bytes ≤ length (table_of i s) = omega (arith, ap length (table_none s), table-grows 0 i s (omega arith)) in
      record { bytes = w.bytes ∙ ap (over (table_of i s)) p ∙ over-again header_bytes (table_of i s) a g; count = w.count }

-- ---- whether it fits

pub no_room : (i n room : ℕ) (s : List ℕ) → i ≤ n → room < length (table_of i s) → false ≡ leb (length (table_of n s)) room
no_room i n room s h l = sym (lt-leb (length (table_of n s)) room (omega (arith, table-grows i n s h)))

pub room_for : (i n room : ℕ) (s : List ℕ) → i ≡ n → length (table_of i s) ≤ room → true ≡ leb (length (table_of n s)) room
room_for i n room s e l = sym (le-leb (length (table_of n s)) room (rw e at l))

pub room-enough : (n room : ℕ) (s : List ℕ) → Bytes s → n < 2 ^ 64 → 37 ≤ room → n ≤ (room - 37) / 113 → true ≡ leb (length (table_of n s)) room
room-enough n room s b l h q = sym (le-leb (length (table_of n s)) room (omega (arith, table-most n s b l)))

-- ---- the call

module _ (run area : List ℕ) where
  pub export-bad : not (run_ok run) ≡ true → refused BadEntry area ≡ export_call run area
  unfolding export_call when◌then◌else◌
  export-bad b = rw b

  pub export-long : not (run_ok run) ≡ false → leb (length (table_of (run_count run) run)) (length area) ≡ false → refused NoRoom area ≡ export_call run area
  unfolding export_call exporting when◌then◌else◌
  export-long b l =
      let t = table_of (run_count run) run in
      rw (b, lt-ltb (length area) (length t) (leb-false (length t) (length area) l))

  pub export-done : (after : List ℕ) (n : ℕ) → not (run_ok run) ≡ false → length (table_of (run_count run) run) ≤ length area
      → Wrote (table_of (run_count run) run) area after n → ◌≡◌ {A = CallLeft} (record { answer = Ok n; area = after }) (export_call run area)
  unfolding export_call exporting when◌then◌else◌
  export-done after n b l w =
      let t = table_of (run_count run) run in
      rw (w.bytes, w.count, b, le-ltb (length area) (length t) l)
