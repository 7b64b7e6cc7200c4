-- A row of a table at the front of what is left of a file, and a look that goes from row to row.
--     RowAt                        a row read: its fields, its text, what is left behind it, and its entry
--     alone, before                contents that say something, with nothing behind their text, or with CRLF
--     begins-good, row_is          a row that a table can have is good, and a good row is such a text
--     BadThere, scan-bad, scan-end, scan-on  how a look goes on
--     row-byte, shorter            a row has a byte, and what is left behind it is shorter
-- Assumes nothing.
use mathlib.Core.Path.{◌≡◌, refl, sym, ap, ◌∙◌, subst}
use mathlib.Core.List.{List, [], ◌∷◌, ◌++◌, append_assoc, append-nil}
use mathlib.Core.Logic.{◌⊎◌, inl, inr, ⊎_elim}
use Prim.Native.Nat.{ℕ, zero, suc, ◌+◌, ◌-◌, ◌≤◌, ◌<◌}
use native.Mathlib.Nat.{zero-add}
use native.Mathlib.Omega.{arith}
use lib.ListN.{length, drop, length-append, length-drop}
use lib.Seq.{drop_at, drop-length}
use Rattle.std.specs.Prelude.{Result, Ok, Err}
use Rattle.std.specs.Result.{is_ok}
use Rattle.entries.specs.declared.Entry.{Entry}
use Rattle.csv_table.specs.Rows.{comma, crlf, RowText}
use Rattle.csv_table.specs.Table.{header_words, entry_fields}
use Rattle.csv_table.specs.Fields.{ending}
use Rattle.csv_table.proofs.FieldLaws.{end_size}
use Rattle.csv_table.specs.Reading.{no_values, entry_of_values, good_row, row_from, row_in, scanned_after}
use Rattle.csv_table.specs.Laws.{IsRow, BeginsWith}
use Rattle.csv_table.specs.declared.RowRead.{RowRead}
use Rattle.csv_table.specs.declared.BadField.{BadField}
use Rattle.csv_table.specs.declared.refusal.CsvRefusal.{CsvRefusal}
use Rattle.csv_table.proofs.Views.{Good, bad-not, row_used, row_entry, bad_row_of}
use Rattle.csv_table.proofs.ScanLaws.{after-bad, after_last, after_next}
use Rattle.csv_table.proofs.RowLaws.{EndsRow, SaysAll, put_all, file-ends, row_ends, row-complete, row-sound}
use Rattle.csv_table.proofs.EntryRows.{header-fields, entry-fields}

-- ---- one row

-- Row i read at the front of s: its fields and its text, so many bytes with its end, what is left behind it, and the entry that it makes.
pub record RowAt (i : ℕ) (s : List ℕ) (fields : List (List ℕ)) (a rest : List ℕ) (e : Entry) : Type 0 where
  pub row : RowText fields a
  pub ends : ((s ≡ a) × (rest ≡ [])) ⊎ (s ≡ a ++ crlf ++ rest)
  pub good : Good (row_in i s)
  pub left : drop (row_used (row_in i s)) s ≡ rest
  pub entry : row_entry (row_in i s) ≡ e

row-in : (i : ℕ) (fs : List (List ℕ)) (ws t z : List ℕ) → length fs ≡ 6 → SaysAll i 0 no_values fs ws → RowText fs t → EndsRow z
    → row_in i (t ++ z) ≡ good_row (length t + end_size (ending z)) (put_all no_values 0 ws)
unfolding row_in
row-in i fs ws t z e s r x =
    ap (λ (n : ℕ). row_from n 0 i no_values 0 (t ++ z)) (sym e)
    ∙ row-complete 0 i no_values 0 fs ws t z (omega arith) s r x
    ∙ ap (λ (n : ℕ). good_row (n + end_size (ending z)) (put_all no_values 0 ws)) (zero-add (length t))

-- contents that say something, with nothing behind their text, or with CRLF
module _ (i : ℕ) (fs : List (List ℕ)) (ws a : List ℕ) (e : length fs ≡ 6) (s : SaysAll i 0 no_values fs ws) (r : RowText fs a) where
  pub alone : RowAt i a fs a [] (entry_of_values (put_all no_values 0 ws))
  alone =
      let q : row_in i a ≡ good_row (length a + end_size (ending [])) (put_all no_values 0 ws) =
      ap (row_in i) (sym (append-nil a)) ∙ row-in i fs ws a [] e s r (inl refl) in
      let u : length a + end_size (ending []) ≡ length a = omega (arith, ap end_size file-ends) in
      record {
        row = r;
        ends = inl (refl, refl);
        good = ap is_ok q;
        left = ap (λ (x : Result RowRead BadField). drop (row_used x) a) q ∙ ap (λ (n : ℕ). drop n a) u ∙ drop-length a;
        entry = ap row_entry q;
      }

  pub before : (b : List ℕ) → RowAt i (a ++ crlf ++ b) fs a b (entry_of_values (put_all no_values 0 ws))
  before b =
      let q : row_in i (a ++ crlf ++ b) ≡ good_row (length a + end_size (ending (crlf ++ b))) (put_all no_values 0 ws) =
      ap (row_in i) (append_assoc a crlf b) ∙ row-in i fs ws a (crlf ++ b) e s r (inr (b, refl)) in
      let u : length a + end_size (ending (crlf ++ b)) ≡ length (a ++ crlf) = omega (arith, ap end_size (row_ends b), length-append a crlf) in
      record {
        row = r;
        ends = inr refl;
        good = ap is_ok q;
        left = ap (λ (x : Result RowRead BadField). drop (row_used x) (a ++ crlf ++ b)) q ∙ ap (λ (n : ℕ). drop n (a ++ crlf ++ b)) u ∙ drop_at (a ++ crlf) b (length (a ++ crlf)) refl;
        entry = ap row_entry q;
      }

-- a row that a table can have says something in each field
record Said (i : ℕ) (row : List (List ℕ)) : Type 0 where
  ws : List ℕ
  count : length row ≡ 6
  says : SaysAll i 0 no_values row ws

row-said : (i : ℕ) (row : List (List ℕ)) → IsRow i row → Said i row
unfolding header_words entry_fields
row-said zero row e = subst (Said 0) (sym e) (record { ws = 0 ∷ 0 ∷ 0 ∷ 0 ∷ 0 ∷ 0 ∷ []; count = refl; says = header-fields })
row-said (suc i) row e =
    subst (Said (suc i)) (sym e.2)
    (record {
      ws = suc i ∷ e.0.client ∷ e.0.request ∷ e.0.operation ∷ e.0.member ∷ e.0.cents ∷ [];
      count = refl;
      says = entry-fields i e.0 e.1;
    })

pub begins-good : (i : ℕ) (s : List ℕ) → BeginsWith i s → Good (row_in i s)
begins-good i s x =
    let row = x.0 in
    let a = x.1 in
    let b = x.2 in
    let d = row-said i row x.3 in
    ⊎_elim (λ q. ap (λ (y : List ℕ). is_ok (row_in i y)) q ∙ (alone i row d.ws a d.count d.says x.4).good)
    (λ q. ap (λ (y : List ℕ). is_ok (row_in i y)) q ∙ (before i row d.ws a d.count d.says x.4 b).good) x.5

-- a good row
pub record RowFound (i : ℕ) (s : List ℕ) : Type 0 where
  pub fs : List (List ℕ)
  pub ws : List ℕ
  pub a : List ℕ
  pub rest : List ℕ
  pub count : length fs ≡ 6
  pub says : SaysAll i 0 no_values fs ws
  pub at : RowAt i s fs a rest (entry_of_values (put_all no_values 0 ws))

pub row_is : (i : ℕ) (s : List ℕ) → Good (row_in i s) → RowFound i s
unfolding row_in
row_is i s h =
    let d = row-sound 5 0 i no_values 0 s (omega arith) h in
    let P : List ℕ → List ℕ → Type 0 = λ (y rest : List ℕ). RowAt i y d.fs d.t rest (entry_of_values (put_all no_values 0 d.ws)) in
    ⊎_elim
    (λ q.
    let e : s ≡ d.t = d.is ∙ ap (λ (y : List ℕ). d.t ++ y) q ∙ append-nil d.t in
    record {
      fs = d.fs;
      ws = d.ws;
      a = d.t;
      rest = [];
      count = d.count;
      says = d.says;
      at = subst (λ (y : List ℕ). P y []) (sym e) (alone i d.fs d.ws d.t d.count d.says d.row);
    })
    (λ q.
    let e : s ≡ d.t ++ crlf ++ q.0 = d.is ∙ ap (λ (y : List ℕ). d.t ++ y) q.1 ∙ sym (append_assoc d.t crlf q.0) in
    record {
      fs = d.fs;
      ws = d.ws;
      a = d.t;
      rest = q.0;
      count = d.count;
      says = d.says;
      at = subst (λ (y : List ℕ). P y q.0) (sym e) (before i d.fs d.ws d.t d.count d.says d.row q.0);
    })
    d.ends

-- ---- a look, row by row

pub less_none : (n : ℕ) → n < 0 → ⊥
less_none n h = omega arith

pub empty-not : (y : List ℕ) → length y ≡ 0 → 1 ≤ length y → ⊥
empty-not y e l = omega arith

-- the bad row that begins there
pub record BadThere (i : ℕ) (x : Result ℕ CsvRefusal) : Type 0 where
  pub row : bad_row_of x ≡ suc i
  pub bad : Good x → ⊥

module _ (n i p : ℕ) (s : List ℕ) where
  pub scan-bad : (Good (row_in i s) → ⊥) → BadThere i (scanned_after (suc n) i p s)
  scan-bad h = go (row_in i s) refl
    where
      go : (x : Result RowRead BadField) → row_in i s ≡ x → BadThere i (scanned_after (suc n) i p s)
      go (Ok r) e = absurd (h (ap is_ok e))
      go (Err b) e = subst (BadThere i) (sym (after-bad n i p s b e)) (record { row = refl; bad = bad-not })

  module _ (h : Good (row_in i s)) (y : List ℕ) (e : drop (row_used (row_in i s)) s ≡ y) where
    -- the row
    record Here : Type 0 where
      r : RowRead
      is : row_in i s ≡ Ok r

    here : Here
    here = go (row_in i s) refl
      where
        go : (x : Result RowRead BadField) → row_in i s ≡ x → Here
        go (Ok r) z = record { r = r; is = z }
        go (Err b) z = bad-not (ap is_ok (sym z) ∙ h)

    left_is : length s - here.r.used ≡ length y
    left_is = sym (length-drop here.r.used s) ∙ ap (λ (x : Result RowRead BadField). length (drop (row_used x) s)) (sym here.is) ∙ ap length e

    pub scan-end : length y ≡ 0 → scanned_after (suc n) i p s ≡ Ok (suc i)
    scan-end l = after_last n i p s here.r here.is (omega (arith, left_is))

    pub scan-on : 1 ≤ length y → scanned_after (suc n) i p s ≡ scanned_after n (suc i) (p + row_used (row_in i s)) y
    scan-on l =
        after_next n i p s here.r here.is (omega (arith, left_is))
        ∙ ap (λ (x : Result RowRead BadField). scanned_after n (suc i) (p + row_used x) (drop (row_used x) s)) (sym here.is)
        ∙ ap (scanned_after n (suc i) (p + row_used (row_in i s))) e

-- a row of two fields or more has a byte
pub row-byte : (fs : List (List ℕ)) (a : List ℕ) → 2 ≤ length fs → RowText fs a → 1 ≤ length a
unfolding RowText
row-byte [] a l r = absurd r
row-byte (f ∷ []) a l r = absurd (two l)
  where
    two : 2 ≤ 1 → ⊥
    two h = omega arith
row-byte (f ∷ g ∷ fs) a l r = omega (arith, ap length r.2, length-append r.0 (comma ∷ r.1))

-- what is left behind a row is shorter
pub shorter : (i : ℕ) (s : List ℕ) (fs : List (List ℕ)) (a rest : List ℕ) (e : Entry) → length fs ≡ 6 → RowAt i s fs a rest e → length rest < length s
shorter i s fs a rest e c x =
    let b = row-byte fs a (omega arith) x.row in
    ⊎_elim (λ q. omega (arith, ap length q.0, ap length q.1))
    (λ q. omega (arith, ap length q, length-append (a ++ crlf) rest, length-append a crlf)) x.ends
