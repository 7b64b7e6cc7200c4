-- The row at which a look over a file ends is the first bad one.
--     first-bad
-- Assumes nothing.
use mathlib.Core.Path.{◌≡◌, refl, sym, ap, ◌∙◌, subst}
use mathlib.Core.List.{List, [], ◌∷◌, ◌++◌, append_assoc}
use mathlib.Core.Logic.{⊎_elim}
use Prim.Native.Nat.{ℕ, zero, suc, ◌+◌, ◌-◌, ◌≤◌, ◌<◌}
use native.Mathlib.Nat.{le_refl}
use native.Mathlib.Omega.{arith}
use lib.ListN.{length}
use lib.Seq.{take_all}
use Rattle.std.specs.Result.{is_ok}
use Rattle.numbers.specs.Words.{All}
use Rattle.entries.specs.Entries.{Sendable}
use Rattle.entries.specs.declared.Entry.{Entry}
use Rattle.csv_table.specs.Rows.{crlf, RowsText}
use Rattle.csv_table.specs.Table.{header_words, entry_fields, entry_rows_after, table}
use Rattle.csv_table.specs.Reading.{row_in, scanned_after, scanned}
use Rattle.csv_table.specs.Laws.{BeginsWith, FirstBad}
use Rattle.csv_table.proofs.Views.{Good, good-or-bad, row_used, bad_row_of}
use Rattle.csv_table.proofs.LookLaws.{begins-good, empty-not, less_none, scan-bad, scan-end, scan-on}
use Rattle.csv_table.proofs.TableLaws.{ended, EntryAt, entry_at, less-left, pos, HeaderAt, header_at, u, header-less, header-on}

-- the rows of entries before it, from row i + 1 on
record BadRows (n i p : ℕ) (s : List ℕ) : Type 0 where
  es : List Entry
  before-it : List ℕ
  rest : List ℕ
  sendable : All Sendable es
  is : s ≡ before-it ++ rest
  good : RowsText (entry_rows_after i es) before-it
  row : bad_row_of (scanned_after n (suc i) p s) ≡ suc (suc i + length es)
  left : rest ≡ [] → ⊥
  bad : BeginsWith (suc i + length es) rest → ⊥

none-there : (s : List ℕ) → 1 ≤ length s → s ≡ [] → ⊥
none-there s l e = empty-not s (ap length e) l

module _ (n i p : ℕ) (s : List ℕ) where
  bad-here : 1 ≤ length s → (Good (row_in (suc i) s) → ⊥) → BadRows (suc n) i p s
  unfolding entry_rows_after RowsText
  bad-here l b =
      let k : suc i + 0 ≡ suc i = omega arith in
      record {
        es = [];
        before-it = [];
        rest = s;
        sendable = tt;
        is = refl;
        good = refl;
        row = (scan-bad n (suc i) p s b).row ∙ ap suc (sym k);
        left = none-there s l;
        bad = λ x. b (begins-good (suc i) s (subst (λ (j : ℕ). BeginsWith j s) k x));
      }

  bad-on : (d : EntryAt i s) → 1 ≤ length d.rest → BadRows n (suc i) (p + row_used (row_in (suc i) s)) d.rest → BadRows (suc n) i p s
  unfolding entry_rows_after RowsText
  bad-on d z r =
      let g = d.at in
      let k : suc (suc i) + length r.es ≡ suc i + length (d.e ∷ r.es) = omega arith in
      let c = ended (suc i) s (entry_fields (suc i) d.e) d.a d.rest d.e g z in
      record {
        es = d.e ∷ r.es;
        before-it = d.a ++ crlf ++ r.before-it;
        rest = r.rest;
        sendable = (d.sendable, r.sendable);
        is = c ∙ ap (λ (y : List ℕ). d.a ++ crlf ++ y) r.is ∙ sym (append_assoc (d.a ++ crlf) r.before-it r.rest);
        good = (d.a, r.before-it, refl, g.row, r.good);
        row = ap bad_row_of (scan-on n (suc i) p s g.good d.rest g.left z) ∙ r.row ∙ ap suc k;
        left = r.left;
        bad = λ x. r.bad (subst (λ (j : ℕ). BeginsWith j r.rest) (sym k) x);
      }

  -- where nothing is left behind a good row, no row is bad
  some_left : (d : EntryAt i s) → (Good (scanned_after (suc n) (suc i) p s) → ⊥) → 1 ≤ length d.rest
  some_left d h =
      pos (length d.rest) λ z. h (ap is_ok (scan-end n (suc i) p s d.at.good d.rest d.at.left z))

  bad-from : (d : EntryAt i s) → 1 ≤ length d.rest → (Good (scanned_after (suc n) (suc i) p s) → ⊥)
      → Good (scanned_after n (suc (suc i)) (p + row_used (row_in (suc i) s)) d.rest) → ⊥
  bad-from d z h g = h (ap is_ok (scan-on n (suc i) p s d.at.good d.rest d.at.left z) ∙ g)

bad-rows : (n i p : ℕ) (s : List ℕ) → length s < n → 1 ≤ length s → (Good (scanned_after n (suc i) p s) → ⊥) → BadRows n i p s
bad-rows zero i p s l m h = absurd (less_none (length s) l)
bad-rows (suc n) i p s l m h =
    ⊎_elim
    (λ g.
    let d = entry_at i s g in
    let z = some_left n i p s d h in
    bad-on n i p s d z (bad-rows n (suc i) (p + row_used (row_in (suc i) s)) d.rest (less-left n i p s d l) z (bad-from n i p s d z h)))
    (bad-here n i p s m) (good-or-bad (row_in (suc i) s))

rows-length : (i : ℕ) (es : List Entry) → length (entry_rows_after i es) ≡ length es
unfolding entry_rows_after
rows-length i [] = refl
rows-length i (e ∷ es) = ap suc (rows-length (suc i) es)

-- the header is bad
header-bad : (file : List ℕ) → (Good (row_in 0 file) → ⊥) → FirstBad (bad_row_of (scanned file)) file
unfolding scanned RowsText
header-bad file b =
    let z : bad_row_of (scanned file) ≡ 1 = (scan-bad (length file) 0 0 file b).row in
    let k : bad_row_of (scanned file) - 1 ≡ 0 = omega arith in
    record {
      rows = [];
      before = [];
      rest = file;
      is = refl;
      count = omega arith;
      good = refl;
      of-table = ([], tt, refl);
      left = λ _. omega arith;
      bad = λ x. b (begins-good 0 file (subst (λ (j : ℕ). BeginsWith j file) k x));
    }

-- the header is good, and a row behind it is bad
entry-bad : (file : List ℕ) (d : HeaderAt file) → 1 ≤ length d.rest → BadRows (length file) 0 (u file d) d.rest → FirstBad (bad_row_of (scanned file)) file
unfolding table RowsText
entry-bad file d z r =
    let g = d.at in
    let n : bad_row_of (scanned file) ≡ suc (1 + length r.es) = ap bad_row_of (header-on file d z) ∙ r.row in
    let k : bad_row_of (scanned file) - 1 ≡ 1 + length r.es = omega arith in
    let c = ended 0 file header_words d.a d.rest d.e g z in
    record {
      rows = table r.es;
      before = d.a ++ crlf ++ r.before-it;
      rest = r.rest;
      is = c ∙ ap (λ (y : List ℕ). d.a ++ crlf ++ y) r.is ∙ sym (append_assoc (d.a ++ crlf) r.before-it r.rest);
      count = omega (arith, rows-length 0 r.es, n);
      good = (d.a, r.before-it, refl, g.row, r.good);
      of-table = (r.es, r.sendable, sym (take_all (length (table r.es)) (table r.es) (le_refl (length (table r.es)))));
      left = λ e. absurd (r.left e);
      bad = λ x. r.bad (subst (λ (j : ℕ). BeginsWith j r.rest) k x);
    }

pub first-bad : (file : List ℕ) → (Good (scanned file) → ⊥) → FirstBad (bad_row_of (scanned file)) file
unfolding scanned
first-bad file h = ⊎_elim behind (header-bad file) (good-or-bad (row_in 0 file))
  where
    behind : Good (row_in 0 file) → FirstBad (bad_row_of (scanned file)) file
    behind g =
        let d = header_at file g in
        let z = pos (length d.rest) (λ e. h (ap is_ok (scan-end (length file) 0 0 file d.at.good d.rest d.at.left e))) in
        entry-bad file d z
        (bad-rows (length file) 0 (u file d) d.rest (header-less file d) z (λ e. h (ap is_ok (header-on file d z) ∙ e)))
