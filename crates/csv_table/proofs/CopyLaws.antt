-- Laws of the entries that are read out of a file, and of the call that reads them.
--     header-good, next-good    the rows of a file without a bad one are good
--     entries-good, table-of-good    the entries of rows the first of which, or the header, is good
--     behind_rows, behind-none, behind_more    what is left of a file behind its header and j rows more
--     table-length, copied_none, copied_more    as many entries as rows; a turn of the entries that are copied
--     import-bad, import-full, imported    the call, way by way
--     import-some, import-few    how many rows it finds: one at least where none is bad, and as many as bytes at most
-- Assumes nothing.
use mathlib.Core.Path.{◌≡◌, refl, sym, ap, ◌∙◌, subst}
use mathlib.Core.List.{List, [], ◌∷◌, ◌++◌, append-nil}
use Prim.Native.Nat.{ℕ, zero, suc, ◌+◌, ◌-◌, ◌*◌, ◌/◌, ◌≤◌, ◌<◌}
use native.Mathlib.Nat.{add-zero}
use native.Mathlib.Numerals.{add-one}
use native.Mathlib.Omega.{arith}
use lib.ListN.{length, take, drop}
use lib.Seq.{drop-drop}
use borrow.Author.Tests.{lt-ltb, le-ltb}
use Rattle.std.specs.Prelude.{Result, Ok, Err}
use Rattle.std.specs.Result.{is_ok, result_unwrap_or}
use Rattle.numbers.specs.Numbers.{over}
use Rattle.numbers.specs.Cells.{packed}
use Rattle.numbers.proofs.WordLaws.{if-true, if-false}
use Rattle.numbers.proofs.RunLaws.{over-lend, over-nil, part-rest}
use Rattle.numbers.proofs.CellLaws.{packed-append, packed-length}
use Rattle.entries.specs.Entries.{encode_entry, entry_of, EntryFits}
use Rattle.entries.specs.declared.Entry.{Entry}
use Rattle.entries.proofs.EntryLaws.{entry-codec}
use Rattle.csv_table.specs.declared.RowRead.{RowRead}
use Rattle.csv_table.specs.declared.BadField.{BadField}
use Rattle.csv_table.specs.declared.refusal.CsvRefusal.{CsvRefusal}
use Rattle.csv_table.specs.declared.refusal.CsvRefusal.TheVariants.{NoRoom}
use Rattle.csv_table.specs.Reading.{row_in, scanned_after, scanned, of_good, row_entries, table_entries}
use Rattle.csv_table.specs.Calls.{CallLeft, refused, importing, import_scanned, import_call}
use Rattle.csv_table.proofs.Views.{Good, bad-not, row_used, row_entry}
use Rattle.csv_table.proofs.ScanLaws.{after-by, scan-rows, scan-counts}

-- ---- good rows

-- n good rows, from row i on
all_good : (n i : ℕ) (s : List ℕ) → Type 0
all_good zero i s = Unit
all_good (suc n) i s = Good (row_in i s) × all_good n (suc i) (drop (row_used (row_in i s)) s)

ok-value : (a b : ℕ) → ◌≡◌ {A = Result ℕ CsvRefusal} (Ok a) (Ok b) → a ≡ b
ok-value a b e = ap (λ (t : Result ℕ CsvRefusal). result_unwrap_or t 0) e

-- as many as the file has rows
scanned-all : (m i p n : ℕ) (s : List ℕ) → scanned_after m i p s ≡ Ok (i + suc n) → all_good (suc n) i s
unfolding scanned_after all_good
scanned-all zero i p n s e = absurd (more (ok-value i (i + suc n) e))
  where
    more : i ≡ i + suc n → ⊥
    more z = omega arith
scanned-all (suc m) i p zero s e =
    after-by (λ (t : Result ℕ CsvRefusal). t ≡ Ok (i + 1) → all_good 1 i s) m i p s
    (λ b g z. bad-not (ap is_ok z))
    (λ r g h z. (ap is_ok g, tt))
    (λ r g h z. (ap is_ok g, tt)) e
scanned-all (suc m) i p (suc n) s e =
    after-by (λ (t : Result ℕ CsvRefusal). t ≡ Ok (i + suc (suc n)) → all_good (suc (suc n)) i s) m i p s
    (λ b g z. bad-not (ap is_ok z))
    (λ r g h z. absurd (more (ok-value (suc i) (i + suc (suc n)) z)))
    (λ r g h z.
    let k : i + suc (suc n) ≡ suc i + suc n = omega arith in
    let w = scanned-all m (suc i) (p + r.used) n (drop r.used s) (z ∙ ap Ok k) in
    (ap is_ok g, subst (λ (x : Result RowRead BadField). all_good (suc n) (suc i) (drop (row_used x) s)) (sym g) w)) e
  where
    more : suc i ≡ i + suc (suc n) → ⊥
    more z = omega arith

-- what is left behind n rows, from row i on
behind : (n i : ℕ) (s : List ℕ) → List ℕ
behind zero i s = s
behind (suc n) i s = behind n (suc i) (drop (row_used (row_in i s)) s)

good-nth : (n i j : ℕ) (s : List ℕ) → all_good n i s → j < n → Good (row_in (i + j) (behind j i s))
unfolding all_good behind
good-nth zero i j s g h = absurd (omega arith)
good-nth (suc n) i zero s g h = rw (add-zero i) g.0
good-nth (suc n) i (suc j) s g h =
    let e : suc i + j ≡ i + suc j = omega arith in
    rw e at (good-nth n (suc i) j (drop (row_used (row_in i s)) s) g.1 (omega arith))

-- ---- their entries

pub entries-good : (n i : ℕ) (s : List ℕ) → Good (row_in i s) → row_entries (suc n) i s ≡ row_entry (row_in i s) ∷ row_entries n (suc i) (drop (row_used (row_in i s)) s)
unfolding row_entries
entries-good n i s g = go (row_in i s) g
  where
    go : (x : Result RowRead BadField) → Good x
        → of_good (λ (r : RowRead). r.entry ∷ row_entries n (suc i) (drop r.used s)) x ≡ row_entry x ∷ row_entries n (suc i) (drop (row_used x) s)
    go (Ok r) h = refl
    go (Err b) h = bad-not h

entries-length : (n i : ℕ) (s : List ℕ) → all_good n i s → length (row_entries n i s) ≡ n
unfolding row_entries all_good
entries-length zero i s g = refl
entries-length (suc n) i s g = ap length (entries-good n i s g.0) ∙ ap suc (entries-length n (suc i) (drop (row_used (row_in i s)) s) g.1)

fewer : (n m i : ℕ) (s : List ℕ) → n ≤ m → all_good m i s → all_good n i s
unfolding all_good
fewer zero m i s h g = tt
fewer (suc n) zero i s h g = absurd (omega arith)
fewer (suc n) (suc m) i s h g = (g.0, fewer n m (suc i) (drop (row_used (row_in i s)) s) (omega arith) g.1)

entries-last : (n i : ℕ) (s : List ℕ) → all_good (suc n) i s → row_entries (suc n) i s ≡ row_entries n i s ++ row_entry (row_in (i + n) (behind n i s)) ∷ []
unfolding row_entries behind all_good
entries-last zero i s g = entries-good 0 i s g.0 ∙ rw (add-zero i)
entries-last (suc n) i s g =
    let e : suc i + n ≡ i + suc n = omega arith in
    let d = drop (row_used (row_in i s)) s in
    entries-good (suc n) i s g.0
    ∙ ap (λ (xs : List Entry). row_entry (row_in i s) ∷ xs) (entries-last n (suc i) d g.1)
    ∙ ap (λ (k : ℕ). row_entry (row_in i s) ∷ (row_entries n (suc i) d ++ row_entry (row_in k (behind n (suc i) d)) ∷ [])) e
    ∙ ap (λ (xs : List Entry). xs ++ row_entry (row_in (i + suc n) (behind n (suc i) d)) ∷ []) (sym (entries-good n i s g.0))

behind-last : (n i : ℕ) (s : List ℕ) → behind (suc n) i s ≡ drop (row_used (row_in (i + n) (behind n i s))) (behind n i s)
unfolding behind
behind-last zero i s = rw (add-zero i)
behind-last (suc n) i s =
    let e : suc i + n ≡ i + suc n = omega arith in
    behind-last n (suc i) (drop (row_used (row_in i s)) s) ∙ rw e

-- ---- in a file

-- what is left of a file behind its header and j rows more
pub behind_rows : (j : ℕ) (file : List ℕ) → List ℕ
behind_rows j file = behind j 1 (drop (row_used (row_in 0 file)) file)

pub table-of-good : (n : ℕ) (file : List ℕ) → Good (row_in 0 file) → table_entries n file ≡ row_entries n 1 (drop (row_used (row_in 0 file)) file)
unfolding table_entries
table-of-good n file g = go (row_in 0 file) g
  where
    go : (x : Result RowRead BadField) → Good x → of_good (λ (r : RowRead). row_entries n 1 (drop r.used file)) x ≡ row_entries n 1 (drop (row_used x) file)
    go (Ok r) h = refl
    go (Err b) h = bad-not h

-- a file with n good rows behind its header
module _ (file : List ℕ) (n : ℕ) (f : scanned file ≡ Ok (n + 1)) where
  rows-good : all_good (suc n) 0 file
  unfolding scanned
  rows-good = let k : n + 1 ≡ 0 + suc n = omega arith in scanned-all (suc (length file)) 0 0 n file (f ∙ ap Ok k)

  pub header-good : Good (row_in 0 file)
  unfolding all_good
  header-good = rows-good.0

  behind-good : all_good n 1 (drop (row_used (row_in 0 file)) file)
  unfolding all_good
  behind-good = rows-good.1

  table-good : (j : ℕ) → table_entries j file ≡ row_entries j 1 (drop (row_used (row_in 0 file)) file)
  table-good j = table-of-good j file header-good

  pub table-length : (j : ℕ) → j ≤ n → length (table_entries j file) ≡ j
  table-length j h = ap length (table-good j) ∙ entries-length j 1 _ (fewer j n 1 _ h behind-good)

  pub behind-none : (r : RowRead) → row_in 0 file ≡ Ok r → drop r.used file ≡ behind_rows 0 file
  unfolding behind_rows behind
  behind-none r e = ap (λ (x : Result RowRead BadField). drop (row_used x) file) (sym e)

  pub copied_none : (area : List ℕ) → area ≡ over (packed encode_entry (table_entries 0 file)) area
  unfolding packed row_entries
  copied_none area = over-nil area ∙ ap (λ (es : List Entry). over (packed encode_entry es) area) (sym (table-good 0))

  module _ (j p : ℕ) (x : Result RowRead BadField) (e : x ≡ row_in (j + 1) (take (length file - p) (drop p file))) (h : drop p file ≡ behind_rows j file) (l : j < n) where
    next : x ≡ row_in (1 + j) (behind_rows j file)
    next =
        let m : j + 1 ≡ 1 + j = omega arith in
        e ∙ ap (row_in (j + 1)) (part-rest p file ∙ h) ∙ ap (λ (i : ℕ). row_in i (behind_rows j file)) m

    pub next-good : Good x
    unfolding behind_rows
    next-good = ap is_ok next ∙ good-nth n 1 j (drop (row_used (row_in 0 file)) file) behind-good l

    module _ (r : RowRead) (z : x ≡ Ok r) where
      pub behind_more : drop (p + r.used) file ≡ behind_rows (j + 1) file
      unfolding behind_rows
      behind_more =
          sym (drop-drop r.used p file)
          ∙ ap (drop r.used) h
          ∙ ap (λ (y : Result RowRead BadField). drop (row_used y) (behind_rows j file)) (sym z ∙ next)
          ∙ sym (behind-last j 1 (drop (row_used (row_in 0 file)) file))
          ∙ ap (λ (i : ℕ). behind_rows i file) (sym (add-one j))

      table-last : table_entries (j + 1) file ≡ table_entries j file ++ r.entry ∷ []
      unfolding behind_rows
      table-last =
          let d = drop (row_used (row_in 0 file)) file in
          ap (λ (i : ℕ). table_entries i file) (add-one j)
          ∙ table-good (suc j)
          ∙ entries-last j 1 d (fewer (suc j) n 1 d (omega arith) behind-good)
          ∙ ap (λ (y : Result RowRead BadField). row_entries j 1 d ++ row_entry y ∷ []) (sym next ∙ z)
          ∙ ap (λ (es : List Entry). es ++ r.entry ∷ []) (sym (table-good j))

      pub copied_more : (area cur : List ℕ) {part : List ℕ} → cur ≡ over (packed encode_entry (table_entries j file)) area
          → part ≡ over (encode_entry r.entry) (take (length cur - 32 * j) (drop (32 * j) cur))
          → take (32 * j) cur ++ (part ++ drop (length cur - 32 * j) (drop (32 * j) cur)) ≡ over (packed encode_entry (table_entries (j + 1) file)) area
      unfolding packed
      copied_more area cur g w =
          let es = table_entries j file in
          let m : length (packed encode_entry es) ≡ 32 * j =
          packed-length 32 entry_of encode_entry EntryFits entry-codec es ∙ ap (λ (k : ℕ). 32 * k) (table-length j (omega arith)) in
          over-lend (packed encode_entry es) (encode_entry r.entry) area (32 * j) m g w
          ∙ ap (λ (s : List ℕ). over s area)
          (rw (table-last, packed-append encode_entry es (r.entry ∷ []), append-nil))

-- ---- the call

room : (a n : ℕ) → n ≤ a / 32 → 32 * n ≤ a
room a n h = omega arith

no_room : (a n : ℕ) → a / 32 < n → a < 32 * n
no_room a n h = omega arith

module _ (file area : List ℕ) (x : Result ℕ CsvRefusal) (e : x ≡ scanned file) where
  scanned-only : import_scanned x file area ≡ import_call file area
  unfolding import_call
  scanned-only = ap (λ (y : Result ℕ CsvRefusal). import_scanned y file area) e

  pub import-bad : (r : CsvRefusal) → x ≡ Err r → refused r area ≡ import_call file area
  unfolding import_scanned
  import-bad r z = sym (ap (λ (y : Result ℕ CsvRefusal). import_scanned y file area) z) ∙ scanned-only

  module _ (rows : ℕ) (z : x ≡ Ok rows) where
    pub import-some : 1 ≤ rows
    import-some = scan-counts file rows (sym e ∙ z)

    pub import-few : rows ≤ length file
    import-few = scan-rows file rows (sym e ∙ z)

    -- the rows behind the header
    pub import-good : scanned file ≡ Ok (rows - 1 + 1)
    import-good = let k : rows ≡ rows - 1 + 1 = omega (arith, import-some) in sym e ∙ z ∙ ap Ok k

    into-only : importing (table_entries (rows - 1) file) area ≡ import_call file area
    unfolding import_scanned
    into-only = sym (ap (λ (y : Result ℕ CsvRefusal). import_scanned y file area) z) ∙ scanned-only

    count : length (table_entries (rows - 1) file) ≡ rows - 1
    count = table-length file (rows - 1) import-good (rows - 1) (omega arith)

    pub import-full : length area / 32 < rows - 1 → refused NoRoom area ≡ import_call file area
    unfolding importing
    import-full h = sym (if-true _ _ _ (lt-ltb _ _ (no_room (length area) _ (rw count h)))) ∙ into-only

    pub imported : (after : List ℕ) → rows - 1 ≤ length area / 32 → after ≡ over (packed encode_entry (table_entries (rows - 1) file)) area
        → ◌≡◌ {A = CallLeft} (record { answer = Ok (rows - 1); area = after }) (import_call file area)
    unfolding importing
    imported after h p =
        (λ i. record { answer = Ok (sym count i); area = p i })
        ∙ (sym (if-false _ _ _ (le-ltb _ _ (room (length area) _ (rw count h)))) ∙ into-only)
