-- A file looked over, row after row.
--     good-table           a file that is the table of entries that can be sent: all its rows are good, and its entries are these
--     TableIs, table_is    a file whose rows are all good is such a table
-- Assumes nothing.
use mathlib.Core.Path.{◌≡◌, refl, sym, ap, ◌∙◌, subst}
use mathlib.Core.List.{List, [], ◌∷◌, ◌++◌, append-nil}
use mathlib.Core.Logic.{inl, inr, ⊎_elim}
use Prim.Native.Nat.{ℕ, zero, suc, ◌+◌, ◌≤◌, ◌<◌}
use native.Mathlib.Omega.{arith}
use lib.ListN.{length, drop, length-append}
use Rattle.std.specs.Prelude.{Ok}
use Rattle.std.specs.Result.{is_ok}
use Rattle.numbers.specs.Words.{All}
use Rattle.numbers.proofs.NumberLaws.{eq-or-not}
use Rattle.entries.specs.Entries.{Sendable}
use Rattle.entries.specs.declared.Entry.{Entry}
use Rattle.csv_table.specs.Rows.{crlf, RowText, FileText}
use Rattle.csv_table.specs.Table.{header_words, entry_fields, entry_rows_after, table, IsTable}
use Rattle.csv_table.specs.Reading.{no_values, entry_of_values, row_in, scanned_after, scanned, row_entries, table_entries}
use Rattle.csv_table.proofs.Views.{Good, good-or-bad, row_used, row_entry}
use Rattle.csv_table.proofs.TextLaws.{past}
use Rattle.csv_table.proofs.RowLaws.{SaysAll, put_all}
use Rattle.csv_table.proofs.EntryRows.{header_row, header-fields, entry_row, entry-fields}
use Rattle.csv_table.proofs.CopyLaws.{entries-good, table-of-good}
use Rattle.csv_table.proofs.LookLaws.{RowAt, alone, before, row_is, empty-not, less_none, scan-bad, scan-end, scan-on, row-byte, shorter}

-- ---- a file that is a table

-- what a file holds behind its first row: nothing, or the others
abbrev Behind : List (List (List ℕ)) → List ℕ → Type 0
Behind [] y = y ≡ []
Behind (q ∷ rs) y = FileText (q ∷ rs) y

record First (i : ℕ) (fs : List (List ℕ)) (rs : List (List (List ℕ))) (s : List ℕ) (e : Entry) : Type 0 where
  a : List ℕ
  rest : List ℕ
  at : RowAt i s fs a rest e
  behind : Behind rs rest

first : (i : ℕ) (fs : List (List ℕ)) (ws : List ℕ) (rs : List (List (List ℕ))) (s : List ℕ) → length fs ≡ 6 → SaysAll i 0 no_values fs ws
    → FileText (fs ∷ rs) s → First i fs rs s (entry_of_values (put_all no_values 0 ws))
unfolding FileText
first i fs ws [] s c d x =
    let a = x.0 in
    let E = entry_of_values (put_all no_values 0 ws) in
    ⊎_elim
    (λ q. record { a = a; rest = []; at = subst (λ (y : List ℕ). RowAt i y fs a [] E) (sym q) (alone i fs ws a c d x.1); behind = refl })
    (λ q.
    record {
      a = a;
      rest = [];
      at = subst (λ (y : List ℕ). RowAt i y fs a [] E) (append-nil (a ++ crlf) ∙ sym q) (before i fs ws a c d x.1 []);
      behind = refl;
    })
    x.2
first i fs ws (q ∷ rs) s c d x =
    record {
      a = x.0;
      rest = x.1;
      at = subst (λ (y : List ℕ). RowAt i y fs x.0 x.1 (entry_of_values (put_all no_values 0 ws))) (sym x.2) (before i fs ws x.0 c d x.3 x.1);
      behind = x.4;
    }

entry_first : (i : ℕ) (e : Entry) (rs : List (List (List ℕ))) (s : List ℕ) → Sendable e → FileText (entry_fields (suc i) e ∷ rs) s
    → First (suc i) (entry_fields (suc i) e) rs s e
unfolding entry_fields
entry_first i e rs s k x =
    first (suc i) (entry_fields (suc i) e) (suc i ∷ e.client ∷ e.request ∷ e.operation ∷ e.member ∷ e.cents ∷ []) rs s refl (entry-fields i e k) x

pub six-fields : (i : ℕ) (e : Entry) → length (entry_fields i e) ≡ 6
unfolding entry_fields
six-fields i e = refl

-- a file of rows of two fields or more has a byte
file-byte : (fs : List (List ℕ)) (rs : List (List (List ℕ))) (s : List ℕ) → 2 ≤ length fs → FileText (fs ∷ rs) s → 1 ≤ length s
unfolding FileText
file-byte fs [] s l x =
    let b = row-byte fs x.0 l x.1 in
    ⊎_elim (λ q. omega (arith, ap length q)) (λ q. omega (arith, ap length q, length-append x.0 crlf)) x.2
file-byte fs (r ∷ rs) s l x = omega (arith, ap length x.2, length-append (x.0 ++ crlf) x.1, length-append x.0 crlf)

-- the rows of entries, from row i + 1 on
record GoodRows (n i p : ℕ) (s : List ℕ) (es : List Entry) : Type 0 where
  scan : scanned_after n (suc i) p s ≡ Ok (suc i + length es)
  read : row_entries (length es) (suc i) s ≡ es

entry_read : (n i : ℕ) (s : List ℕ) (e : Entry) (rest : List ℕ) → Good (row_in i s) → row_entry (row_in i s) ≡ e → drop (row_used (row_in i s)) s ≡ rest
    → row_entries (suc n) i s ≡ e ∷ row_entries n (suc i) rest
entry_read n i s e rest g p q = entries-good n i s g ∙ λ j. p j ∷ row_entries n (suc i) (q j)

good-rows : (n i p : ℕ) (s : List ℕ) (e : Entry) (es : List Entry) → All Sendable (e ∷ es) → FileText (entry_rows_after i (e ∷ es)) s → length s < n
    → GoodRows n i p s (e ∷ es)
unfolding entry_rows_after row_entries
good-rows zero i p s e es k x l = absurd (less_none (length s) l)
good-rows (suc n) i p s e [] k x l =
    let d = entry_first i e [] s k.0 x in
    let g = d.at in
    let y = d.rest in
    record {
      scan = scan-end n (suc i) p s g.good y g.left (ap length d.behind) ∙ ap Ok (omega arith);
      read = entry_read 0 (suc i) s e y g.good g.entry g.left;
    }
good-rows (suc n) i p s e (f ∷ es) k x l =
    let d = entry_first i e (entry_rows_after (suc i) (f ∷ es)) s k.0 x in
    let g = d.at in
    let y = d.rest in
    let m = shorter (suc i) s (entry_fields (suc i) e) d.a y e (six-fields (suc i) e) g in
    let r = good-rows n (suc i) (p + row_used (row_in (suc i) s)) y f es k.1 d.behind (omega arith) in
    record {
      scan =
          scan-on n (suc i) p s g.good y g.left (file-byte (entry_fields (suc (suc i)) f) (entry_rows_after (suc (suc i)) es) y (omega (arith, six-fields (suc (suc i)) f)) d.behind)
          ∙ r.scan ∙ ap Ok (omega arith);
      read = entry_read (length (f ∷ es)) (suc i) s e y g.good g.entry g.left ∙ ap (λ (xs : List Entry). e ∷ xs) r.read;
    }

-- a table of entries that can be sent
pub record Looked (file : List ℕ) (es : List Entry) : Type 0 where
  pub scan : scanned file ≡ Ok (suc (length es))
  pub read : table_entries (length es) file ≡ es

header-first : (rs : List (List (List ℕ))) (s : List ℕ) → FileText (header_words ∷ rs) s
    → First 0 header_words rs s (entry_of_values (put_all no_values 0 (0 ∷ 0 ∷ 0 ∷ 0 ∷ 0 ∷ 0 ∷ [])))
unfolding header_words
header-first rs s x = first 0 header_words (0 ∷ 0 ∷ 0 ∷ 0 ∷ 0 ∷ 0 ∷ []) rs s refl header-fields x

six-words : length header_words ≡ 6
unfolding header_words
six-words = refl

pub good-table : (file : List ℕ) (es : List Entry) → IsTable es file → Looked file es
unfolding table entry_rows_after scanned table_entries row_entries
good-table file [] x =
    let d = header-first [] file x.text in
    record { scan = scan-end (length file) 0 0 file d.at.good d.rest d.at.left (ap length d.behind); read = table-of-good 0 file d.at.good }
good-table file (e ∷ es) x =
    let d = header-first (entry_rows_after 0 (e ∷ es)) file x.text in
    let g = d.at in
    let y = d.rest in
    let m = shorter 0 file header_words d.a y _ six-words g in
    let r = good-rows (length file) 0 (0 + row_used (row_in 0 file)) y e es x.sendable d.behind m in
    record {
      scan =
          scan-on (length file) 0 0 file g.good y g.left (file-byte (entry_fields 1 e) (entry_rows_after 1 es) y (omega (arith, six-fields 1 e)) d.behind)
          ∙ r.scan ∙ ap Ok (omega arith);
      read = table-of-good (length (e ∷ es)) file g.good ∙ ap (row_entries (length (e ∷ es)) 1) g.left ∙ r.read;
    }

-- ---- a file whose rows are all good

-- a row in front of others
join-file : (r : List (List ℕ)) (rs : List (List (List ℕ))) (a rest s : List ℕ) → s ≡ a ++ crlf ++ rest → RowText r a → FileText rs rest → FileText (r ∷ rs) s
unfolding FileText
join-file r [] a rest s e x f = absurd f
join-file r (q ∷ rs) a rest s e x f = (a, rest, e, x, f)

-- the last one
last-file : (i : ℕ) (s : List ℕ) (fs : List (List ℕ)) (a rest : List ℕ) (e : Entry) → RowAt i s fs a rest e → rest ≡ [] → FileText (fs ∷ []) s
unfolding FileText
last-file i s fs a rest e x z =
    (a, x.row, ⊎_elim (λ q. inl q.0) (λ q. inr (q ∙ ap (λ (y : List ℕ). a ++ crlf ++ y) z ∙ append-nil (a ++ crlf))) x.ends)

-- one with something behind it ends by CRLF
pub ended : (i : ℕ) (s : List ℕ) (fs : List (List ℕ)) (a rest : List ℕ) (e : Entry) → RowAt i s fs a rest e → 1 ≤ length rest → s ≡ a ++ crlf ++ rest
ended i s fs a rest e x l = ⊎_elim (λ q. absurd (empty-not rest (ap length q.1) l)) (λ q. q) x.ends

none_left : (y : List ℕ) → length y ≡ 0 → y ≡ []
none_left [] e = refl
none_left (b ∷ y) e = absurd (past (suc (length y)) 0 (omega arith) e)

-- the rows of entries, from row i + 1 on
record AllRows (n i p : ℕ) (s : List ℕ) : Type 0 where
  es : List Entry
  sendable : All Sendable es
  text : FileText (entry_rows_after i es) s
  rows : scanned_after n (suc i) p s ≡ Ok (suc i + length es)
  read : row_entries (length es) (suc i) s ≡ es

-- the entry of a good row
pub record EntryAt (i : ℕ) (s : List ℕ) : Type 0 where
  pub e : Entry
  pub a : List ℕ
  pub rest : List ℕ
  pub sendable : Sendable e
  pub at : RowAt (suc i) s (entry_fields (suc i) e) a rest e

pub entry_at : (i : ℕ) (s : List ℕ) → Good (row_in (suc i) s) → EntryAt i s
entry_at i s h =
    let g = row_is (suc i) s h in
    let d = entry_row i g.fs g.ws g.count g.says in
    let e = entry_of_values (put_all no_values 0 g.ws) in
    record {
      e = e;
      a = g.a;
      rest = g.rest;
      sendable = d.1;
      at = subst (λ (fs : List (List ℕ)). RowAt (suc i) s fs g.a g.rest e) d.0 g.at;
    }

module _ (n i p : ℕ) (s : List ℕ) where
  one : (d : EntryAt i s) → length d.rest ≡ 0 → AllRows (suc n) i p s
  unfolding entry_rows_after row_entries
  one d z =
      let g = d.at in
      let q = scan-end n (suc i) p s g.good d.rest g.left z in
      record {
        es = d.e ∷ [];
        sendable = (d.sendable, tt);
        text = last-file (suc i) s (entry_fields (suc i) d.e) d.a d.rest d.e g (none_left d.rest z);
        rows = q ∙ ap Ok (omega arith);
        read = entry_read 0 (suc i) s d.e d.rest g.good g.entry g.left;
      }

  more : (d : EntryAt i s) → 1 ≤ length d.rest → AllRows n (suc i) (p + row_used (row_in (suc i) s)) d.rest → AllRows (suc n) i p s
  unfolding entry_rows_after
  more d z r =
      let g = d.at in
      let q = scan-on n (suc i) p s g.good d.rest g.left z in
      let c = ended (suc i) s (entry_fields (suc i) d.e) d.a d.rest d.e g z in
      record {
        es = d.e ∷ r.es;
        sendable = (d.sendable, r.sendable);
        text = join-file (entry_fields (suc i) d.e) (entry_rows_after (suc i) r.es) d.a d.rest s c g.row r.text;
        rows = q ∙ r.rows ∙ ap Ok (omega arith);
        read = entry_read (length r.es) (suc i) s d.e d.rest g.good g.entry g.left ∙ ap (λ (xs : List Entry). d.e ∷ xs) r.read;
      }

  -- the look goes on there
  on-from : (d : EntryAt i s) → 1 ≤ length d.rest → Good (scanned_after (suc n) (suc i) p s)
      → Good (scanned_after n (suc (suc i)) (p + row_used (row_in (suc i) s)) d.rest)
  on-from d z h = ap is_ok (sym (scan-on n (suc i) p s d.at.good d.rest d.at.left z)) ∙ h

  pub less-left : (d : EntryAt i s) → length s < suc n → length d.rest < n
  less-left d l =
      let m = shorter (suc i) s (entry_fields (suc i) d.e) d.a d.rest d.e (six-fields (suc i) d.e) d.at in
      omega arith

  good-here : Good (scanned_after (suc n) (suc i) p s) → Good (row_in (suc i) s)
  good-here h =
      ⊎_elim (λ g. g) (λ b. absurd ((scan-bad n (suc i) p s b).bad h)) (good-or-bad (row_in (suc i) s))

pub pos : (n : ℕ) → (n ≡ 0 → ⊥) → 1 ≤ n
pos n h = omega arith

all-rows : (n i p : ℕ) (s : List ℕ) → length s < n → Good (scanned_after n (suc i) p s) → AllRows n i p s
all-rows zero i p s l h = absurd (less_none (length s) l)
all-rows (suc n) i p s l h =
    let d = entry_at i s (good-here n i p s h) in
    ⊎_elim (one n i p s d)
    (λ z.
    let y = pos (length d.rest) z in
    more n i p s d y (all-rows n (suc i) (p + row_used (row_in (suc i) s)) d.rest (less-left n i p s d l) (on-from n i p s d y h)))
    (eq-or-not (length d.rest) 0)

-- a file whose rows are all good is the table of entries that can be sent
pub record TableIs (file : List ℕ) : Type 0 where
  pub es : List Entry
  pub is : IsTable es file
  pub looked : Looked file es

-- the header of a file
pub record HeaderAt (s : List ℕ) : Type 0 where
  pub a : List ℕ
  pub rest : List ℕ
  pub e : Entry
  pub at : RowAt 0 s header_words a rest e

pub header_at : (s : List ℕ) → Good (row_in 0 s) → HeaderAt s
header_at s h =
    let g = row_is 0 s h in
    let e = entry_of_values (put_all no_values 0 g.ws) in
    record { a = g.a; rest = g.rest; e = e; at = subst (λ (fs : List (List ℕ)). RowAt 0 s fs g.a g.rest e) (header_row g.fs g.ws g.count g.says) g.at }

header-good : (file : List ℕ) → Good (scanned file) → Good (row_in 0 file)
unfolding scanned
header-good file h =
    ⊎_elim (λ g. g) (λ b. absurd ((scan-bad (length file) 0 0 file b).bad h)) (good-or-bad (row_in 0 file))

module _ (file : List ℕ) (d : HeaderAt file) where
  abbrev pub u : ℕ
  u = 0 + row_used (row_in 0 file)

  pub header-less : length d.rest < length file
  header-less = shorter 0 file header_words d.a d.rest d.e six-words d.at

  header-alone : length d.rest ≡ 0 → TableIs file
  unfolding table entry_rows_after
  header-alone z =
      let t : IsTable [] file = record { text = last-file 0 file header_words d.a d.rest d.e d.at (none_left d.rest z); sendable = tt } in
      record { es = []; is = t; looked = good-table file [] t }

  header-then : 1 ≤ length d.rest → AllRows (length file) 0 u d.rest → TableIs file
  unfolding table entry_rows_after
  header-then z r =
      let c = ended 0 file header_words d.a d.rest d.e d.at z in
      let t : IsTable r.es file = record { text = join-file header_words (entry_rows_after 0 r.es) d.a d.rest file c d.at.row r.text; sendable = r.sendable } in
      record { es = r.es; is = t; looked = good-table file r.es t }

  pub header-on : 1 ≤ length d.rest → scanned file ≡ scanned_after (length file) 1 u d.rest
  unfolding scanned
  header-on z = scan-on (length file) 0 0 file d.at.good d.rest d.at.left z

pub table_is : (file : List ℕ) → Good (scanned file) → TableIs file
table_is file h =
    let d = header_at file (header-good file h) in
    ⊎_elim (header-alone file d)
    (λ z.
    let y = pos (length d.rest) z in
    header-then file d y
    (all-rows (length file) 0 (u file d) d.rest (header-less file d) (ap is_ok (sym (header-on file d y)) ∙ h)))
    (eq-or-not (length d.rest) 0)
