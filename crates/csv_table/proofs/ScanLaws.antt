-- Laws of a file's rows, one after the other.
--     after-bad, after_last, after_next    a file up to its first bad row, a row at a time; after-by: what holds of each way
--     scan-fits, scan-place, scan-some    a row stands within what is left of the file
--     scan-start, scan-bad, scan-last, scan-next    the same where a part of the file is handed over
--     scan-rows, scan-counts    how many rows a file has: as many as bytes at most, and one at least where none is bad
-- Assumes nothing.
use mathlib.Core.Path.{◌≡◌, refl, sym, ap, ◌∙◌, subst}
use mathlib.Core.List.{List}
use mathlib.Core.Logic.{⊎_elim}
use Prim.Native.Nat.{ℕ, zero, suc, ◌+◌, ◌-◌, ◌≤◌, ◌<◌}
use native.Mathlib.Numerals.{add-one}
use native.Mathlib.Omega.{arith}
use lib.ListN.{length, take, drop, length-drop}
use lib.Seq.{drop-drop}
use borrow.Author.Tests.{eq-eqb, ne_eqb}
use Rattle.std.specs.Prelude.{Result, Ok, Err}
use Rattle.std.specs.Result.{is_ok, result_unwrap_or}
use Rattle.numbers.proofs.WordLaws.{if-true, if-false}
use Rattle.numbers.proofs.NumberLaws.{le-or-lt}
use Rattle.numbers.proofs.RunLaws.{part-rest}
use Rattle.csv_table.specs.declared.RowRead.{RowRead}
use Rattle.csv_table.specs.declared.BadField.{BadField}
use Rattle.csv_table.specs.declared.refusal.CsvRefusal.{CsvRefusal}
use Rattle.csv_table.specs.declared.refusal.CsvRefusal.TheVariants.{BadRow}
use Rattle.csv_table.specs.Reading.{row_in, scanned_after, scanned}
use Rattle.csv_table.proofs.Views.{Good, bad-not, row_used, row_place}
use Rattle.csv_table.proofs.ReadingLaws.{row-used, row-place, row-some}

-- ---- a row at a time

-- the bad row that begins behind p bytes
abbrev pub bad_at : (i p : ℕ) → BadField → CsvRefusal
bad_at i p b = BadRow (suc i) b.column b.fault (p + b.place)

module _ (n i p : ℕ) (s : List ℕ) where
  pub after-bad : (b : BadField) → row_in i s ≡ Err b → scanned_after (suc n) i p s ≡ Err (bad_at i p b)
  unfolding scanned_after
  after-bad b e = rw e

  module _ (r : RowRead) (e : row_in i s ≡ Ok r) where
    rest : length (drop r.used s) ≡ length s - r.used
    rest = length-drop r.used s

    pub after_last : length s ≤ r.used → scanned_after (suc n) i p s ≡ Ok (suc i)
    unfolding scanned_after
    after_last h =
        let g : length (drop r.used s) ≡ 0 = omega (arith, rest) in
        rw e (if-true _ _ _ (eq-eqb _ _ g))

    pub after_next : r.used < length s → scanned_after (suc n) i p s ≡ scanned_after n (suc i) (p + r.used) (drop r.used s)
    unfolding scanned_after
    after_next h =
        let g : (length (drop r.used s) ≡ 0 → ⊥) = λ q. omega (arith, rest) in
        rw e (if-false _ _ _ (ne_eqb _ _ g))

-- what holds of a bad row, of the last one and of what is behind a good one
pub after-by : (P : Result ℕ CsvRefusal → Type 0) (n i p : ℕ) (s : List ℕ) → ((b : BadField) → row_in i s ≡ Err b → P (Err (bad_at i p b)))
    → ((r : RowRead) → row_in i s ≡ Ok r → length s ≤ r.used → P (Ok (suc i)))
    → ((r : RowRead) → row_in i s ≡ Ok r → r.used < length s → P (scanned_after n (suc i) (p + r.used) (drop r.used s))) → P (scanned_after (suc n) i p s)
after-by P n i p s b l g = go (row_in i s) refl
  where
    go : (x : Result RowRead BadField) → row_in i s ≡ x → P (scanned_after (suc n) i p s)
    go (Err f) e = subst P (sym (after-bad n i p s f e)) (b f e)
    go (Ok r) e =
        ⊎_elim (λ h. subst P (sym (after_last n i p s r e h)) (l r e h)) (λ h. subst P (sym (after_next n i p s r e h)) (g r e h)) (le-or-lt (length s) r.used)

-- ---- the same in a file, of which `&file[p..]` is handed over

pub scan-start : (file : List ℕ) → scanned file ≡ scanned_after (suc (length file) - 0) 0 0 (drop 0 file)
unfolding scanned
scan-start file = let z : suc (length file) - 0 ≡ suc (length file) = omega arith in rw z

module _ (i p : ℕ) (file : List ℕ) (x : Result RowRead BadField) (e : x ≡ row_in i (take (length file - p) (drop p file))) where
  pub here : row_in i (drop p file) ≡ x
  here = sym (e ∙ ap (row_in i) (part-rest p file))

  module _ (r : RowRead) (z : x ≡ Ok r) where
    pub scan-some : 1 ≤ r.used
    scan-some = omega (arith, row-some i (drop p file) (ap is_ok (here ∙ z)), ap row_used (here ∙ z))

    pub scan-fits : p ≤ length file → p + r.used ≤ length file
    scan-fits h = omega (arith, row-used i (drop p file), ap row_used (here ∙ z), length-drop p file)

  pub scan-place : (b : BadField) → x ≡ Err b → p ≤ length file → p + b.place ≤ length file
  scan-place b z h = omega (arith, row-place i (drop p file), ap row_place (here ∙ z), length-drop p file)

  module _ (l : i ≤ p) (h : p ≤ length file) where
    left : suc (length file) - i ≡ suc (length file - i)
    left = omega arith

    pub scan-bad : (b : BadField) → x ≡ Err b → scanned_after (suc (length file) - i) i p (drop p file) ≡ Err (BadRow (i + 1) b.column b.fault (p + b.place))
    scan-bad b z = rw (left, add-one i) (after-bad (length file - i) i p (drop p file) b (here ∙ z))

    module _ (r : RowRead) (z : x ≡ Ok r) where
      pub scan-last : p + r.used ≡ length file → scanned_after (suc (length file) - i) i p (drop p file) ≡ Ok (i + 1)
      scan-last g = rw (left, add-one i) (after_last (length file - i) i p (drop p file) r (here ∙ z) (omega (arith, length-drop p file)))

      pub scan-next : (p + r.used ≡ length file → ⊥) → scanned_after (suc (length file) - i) i p (drop p file)
          ≡ scanned_after (suc (length file) - (i + 1)) (i + 1) (p + r.used) (drop (p + r.used) file)
      scan-next g =
          let m : suc (length file) - (i + 1) ≡ length file - i = omega arith in
          rw (m, left, add-one i, ← drop-drop r.used p file)
          (after_next (length file - i) i p (drop p file) r (here ∙ z) (omega (arith, length-drop p file, scan-fits r z h, g)))

-- ---- how many rows

-- the count of a good row's bytes
used-is : (i : ℕ) (s : List ℕ) (r : RowRead) → row_in i s ≡ Ok r → (1 ≤ r.used) × (r.used ≤ length s)
used-is i s r e = (omega (arith, row-some i s (ap is_ok e), ap row_used e), omega (arith, row-used i s, ap row_used e))

after-rows : (n i p : ℕ) (s : List ℕ) → result_unwrap_or (scanned_after n i p s) 0 ≤ i + length s
unfolding scanned_after
after-rows zero i p s = omega arith
after-rows (suc n) i p s =
    after-by (λ (t : Result ℕ CsvRefusal). result_unwrap_or t 0 ≤ i + length s) n i p s
    (λ b e. omega arith)
    (λ r e h. omega (arith, used-is i s r e))
    (λ r e h. omega (arith, after-rows n (suc i) (p + r.used) (drop r.used s), used-is i s r e, length-drop r.used s))

after-counts : (n i p : ℕ) (s : List ℕ) → Good (scanned_after n i p s) → i ≤ result_unwrap_or (scanned_after n i p s) 0
unfolding scanned_after
after-counts zero i p s = λ _. omega arith
after-counts (suc n) i p s =
    after-by (λ (t : Result ℕ CsvRefusal). Good t → i ≤ result_unwrap_or t 0) n i p s
    (λ b e. bad-not)
    (λ r e h _. omega arith)
    (λ r e h z. omega (arith, after-counts n (suc i) (p + r.used) (drop r.used s) z))

pub scan-rows : (file : List ℕ) (n : ℕ) → scanned file ≡ Ok n → n ≤ length file
unfolding scanned
scan-rows file n e = omega (arith, after-rows (suc (length file)) 0 0 file, ap (λ (t : Result ℕ CsvRefusal). result_unwrap_or t 0) e)

pub scan-counts : (file : List ℕ) (n : ℕ) → scanned file ≡ Ok n → 1 ≤ n
unfolding scanned
scan-counts file n e =
    after-by (λ (t : Result ℕ CsvRefusal). t ≡ Ok n → 1 ≤ n) (length file) 0 0 file
    (λ b _ z. bad-not (ap is_ok z))
    (λ r _ h z. omega (arith, ap (λ (t : Result ℕ CsvRefusal). result_unwrap_or t 0) z))
    (λ r _ h z. omega (arith, after-counts (length file) 1 (0 + r.used) (drop r.used file) (ap is_ok z), ap (λ (t : Result ℕ CsvRefusal). result_unwrap_or t 0) z)) e
