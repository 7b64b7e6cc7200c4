-- Laws of rows.
--     row_step, row-good, row-bad    a row, a field at a time
--     row-used, row-place    a row stands within what is left, and so does its first bad field
--     row-some    a good row takes a byte or more
--     Values, values-none, values-next    how large the values of a row are
--     row-start, row-end, turn-told, turn-fits, turn-good, turn-bad    a turn of the loop that reads a row
-- Assumes nothing.
use mathlib.Core.Path.{◌≡◌, refl, sym, ap, ◌∙◌, subst}
use mathlib.Core.Bool.{Bool, true, false}
use mathlib.Core.List.{List, []}
use Prim.Native.Nat.{ℕ, zero, suc, ◌+◌, ◌-◌, ◌≤◌, ◌<◌}
use native.Mathlib.Numerals.{add-one}
use native.Mathlib.Omega.{arith}
use lib.Dec.{eqb}
use lib.ListN.{length, get_or, set, take, drop, length-drop, length-set}
use lib.Seq.{get_or-set_same, get_or-set_other, drop-drop}
use borrow.Author.Tests.{eqb-true, eqb-false}
use Rattle.std.specs.Prelude.{Option, Some, None, unwrap_or, Result, Ok, Err}
use Rattle.std.specs.Result.{is_ok}
use Rattle.std.specs.Bool.{then_some}
use Rattle.numbers.specs.Words.{when◌then◌else◌}
use Rattle.numbers.proofs.WordLaws.{split}
use Rattle.numbers.proofs.RunLaws.{part-rest}
use Rattle.decimal.specs.Decimal.{number_in}
use Rattle.decimal.proofs.DecimalLaws.{number-there}
use Rattle.csv_table.specs.declared.FieldRead.{FieldRead}
use Rattle.csv_table.specs.declared.BadField.{BadField}
use Rattle.csv_table.specs.declared.refusal.FieldFault.{FieldFault}
use Rattle.csv_table.specs.declared.RowRead.{RowRead}
use Rattle.csv_table.specs.Fields.{same, kind_in, header_in, sense, field_told}
use Rattle.csv_table.specs.Table.{header_words}
use Rattle.csv_table.specs.Reading.{no_values, good_row, row_from, row_in}
use Rattle.csv_table.proofs.Views.{Good, bad-not, told_value, told_used, row_used, row_place}
use Rattle.csv_table.proofs.FieldLaws.{told-used, told-some, kind-bound, told-value}

-- ---- a row, a field at a time

module _ (n k i : ℕ) (vs : List ℕ) (p : ℕ) (s : List ℕ) where
  pub row-good : (t : FieldRead) → field_told i k (get_or vs 3 0) s ≡ Ok t
      → row_from (suc n) k i vs p s ≡ row_from n (suc k) i (set vs k t.value) (p + t.used) (drop t.used s)
  unfolding row_from
  row-good t e = rw e

  pub row_step : (v u : ℕ) → field_told i k (get_or vs 3 0) s ≡ Ok (record { value = v; used = u })
      → row_from (suc n) k i vs p s ≡ row_from n (suc k) i (set vs k v) (p + u) (drop u s)
  row_step v u e = row-good (record { value = v; used = u }) e

  pub row-bad : (f : FieldFault) → field_told i k (get_or vs 3 0) s ≡ Err f → row_from (suc n) k i vs p s ≡ Err (record { fault = f; column = k + 1; place = p })
  unfolding row_from
  row-bad f e = rw e

-- what holds of the bad rows and of what is behind a good field
row_by : (P : Result RowRead BadField → Type 0) (n k i : ℕ) (vs : List ℕ) (p : ℕ) (s : List ℕ)
    → ((f : FieldFault) → P (Err (record { fault = f; column = k + 1; place = p })))
    → ((t : FieldRead) → field_told i k (get_or vs 3 0) s ≡ Ok t → P (row_from n (suc k) i (set vs k t.value) (p + t.used) (drop t.used s)))
    → P (row_from (suc n) k i vs p s)
row_by P n k i vs p s b g = go (field_told i k (get_or vs 3 0) s) refl
  where
    go : (r : Result FieldRead FieldFault) → field_told i k (get_or vs 3 0) s ≡ r → P (row_from (suc n) k i vs p s)
    go (Ok t) e = subst P (sym (row-good n k i vs p s t e)) (g t e)
    go (Err f) e = subst P (sym (row-bad n k i vs p s f e)) (b f)

-- a good field stands within what is left
told-fits : (i k o : ℕ) (s : List ℕ) (t : FieldRead) → field_told i k o s ≡ Ok t → t.used ≤ length s
told-fits i k o s t e = omega (arith, told-used i k o s, ap told_used e)

from-used : (n k i : ℕ) (vs : List ℕ) (p : ℕ) (s : List ℕ) → row_used (row_from n k i vs p s) ≤ p + length s
unfolding row_from
from-used zero k i vs p s = omega arith
from-used (suc n) k i vs p s =
    row_by (λ (r : Result RowRead BadField). row_used r ≤ p + length s) n k i vs p s
    (λ f. omega arith)
    (λ t e. omega (arith, from-used n (suc k) i (set vs k t.value) (p + t.used) (drop t.used s), length-drop t.used s, told-fits i k (get_or vs 3 0) s t e))

from_more : (n k i : ℕ) (vs : List ℕ) (p : ℕ) (s : List ℕ) → Good (row_from n k i vs p s) → p ≤ row_used (row_from n k i vs p s)
unfolding row_from
from_more zero k i vs p s = λ z. omega arith
from_more (suc n) k i vs p s =
    row_by (λ (r : Result RowRead BadField). Good r → p ≤ row_used r) n k i vs p s
    (λ f. bad-not)
    (λ t e z. omega (arith, from_more n (suc k) i (set vs k t.value) (p + t.used) (drop t.used s) z))

from_place : (n k i : ℕ) (vs : List ℕ) (p : ℕ) (s : List ℕ) → row_place (row_from n k i vs p s) ≤ p + length s
unfolding row_from
from_place zero k i vs p s = omega arith
from_place (suc n) k i vs p s =
    row_by (λ (r : Result RowRead BadField). row_place r ≤ p + length s) n k i vs p s
    (λ f. omega arith)
    (λ t e. omega (arith, from_place n (suc k) i (set vs k t.value) (p + t.used) (drop t.used s), length-drop t.used s, told-fits i k (get_or vs 3 0) s t e))

pub row-used : (i : ℕ) (s : List ℕ) → row_used (row_in i s) ≤ length s
unfolding row_in
row-used i s = omega (arith, from-used 6 0 i no_values 0 s)

pub row-place : (i : ℕ) (s : List ℕ) → row_place (row_in i s) ≤ length s
unfolding row_in
row-place i s = omega (arith, from_place 6 0 i no_values 0 s)

pub row-some : (i : ℕ) (s : List ℕ) → Good (row_in i s) → 1 ≤ row_used (row_in i s)
unfolding row_in
row-some i s =
    row_by (λ (r : Result RowRead BadField). Good r → 1 ≤ row_used r) 5 0 i no_values 0 s
    (λ f. bad-not)
    (λ t e z. omega (arith, told-some i 0 0 s (omega arith) (ap is_ok e), ap told_used e, from_more 5 1 i (set no_values 0 t.value) (0 + t.used) (drop t.used s) z))

-- ---- how large the values are

-- what the header's field says, where it says it
abbrev header_value : Bool → Option ℕ
header_value b = then_some b 0

header-none : (b : Bool) → unwrap_or (header_value b) 0 ≡ 0
header-none true = refl
header-none false = refl

number_bound : (most : ℕ) (t : List ℕ) → unwrap_or (number_in most t) 0 ≤ most
number_bound most t = go (number_in most t) refl
  where
    go : (n : Option ℕ) → number_in most t ≡ n → unwrap_or n 0 ≤ most
    go None e = omega arith
    go (Some n) e = (number-there most n t e).1

sense-kind : (i o : ℕ) (t : List ℕ) → unwrap_or (sense i 3 o t) 0 ≤ 3
unfolding sense header_in when◌then◌else◌
sense-kind i o t =
    split (λ (n : Option ℕ). unwrap_or n 0 ≤ 3) (eqb i 0) (header_in 3 t) (kind_in t) (λ _. omega (arith, header-none (same t (get_or header_words 3 [])))) (λ _. kind-bound t)

sense-member : (i o : ℕ) (t : List ℕ) → unwrap_or (sense i 4 o t) 0 ≤ 4294967295
unfolding sense header_in when◌then◌else◌
sense-member i o t =
    split (λ (n : Option ℕ). unwrap_or n 0 ≤ 4294967295) (eqb i 0) (header_in 4 t) (number_in 4294967295 t)
    (λ _. omega (arith, header-none (same t (get_or header_words 4 [])))) (λ _. number_bound 4294967295 t)

module _ (i o : ℕ) (s : List ℕ) where
  told-kind : told_value (field_told i 3 o s) ≤ 3
  told-kind = told-value i 3 o s 3 (sense-kind i o)

  told-member : told_value (field_told i 4 o s) ≤ 4294967295
  told-member = told-value i 4 o s 4294967295 (sense-member i o)

-- what the values of a row are, as far as it is read
pub record Values (vs : List ℕ) : Type 0 where
  pub six : length vs ≡ 6
  pub kind : get_or vs 3 0 ≤ 3
  pub member : get_or vs 4 0 ≤ 4294967295

pub values-none : Values no_values
values-none = record { six = refl; kind = omega arith; member = omega arith }

set-bound : (most j k v : ℕ) (vs : List ℕ) → k < length vs → get_or vs j 0 ≤ most → (k ≡ j → v ≤ most) → get_or (set vs k v) j 0 ≤ most
set-bound most j k v vs l h g = go _ refl
  where
    go : (b : Bool) → eqb k j ≡ b → get_or (set vs k v) j 0 ≤ most
    go true e =
        let z = eqb-true k j e in
        rw (← z, get_or-set_same vs k v 0 l) (g z)
    go false e = rw (get_or-set_other vs k j v 0 (λ z. eqb-false k j e (sym z))) h

pub values-next : (i k o : ℕ) (vs s : List ℕ) (t : FieldRead) → field_told i k o s ≡ Ok t → k < 6 → Values vs → Values (set vs k t.value)
values-next i k o vs s t e h w =
    let l : k < length vs = omega (arith, w.six) in
    let v = t.value in
    record { six = length-set vs k v ∙ w.six; kind = set-bound 3 3 k v vs l w.kind kind; member = set-bound 4294967295 4 k v vs l w.member member }
  where
    kind : k ≡ 3 → t.value ≤ 3
    kind z = omega (arith, ap told_value e, ap (λ (j : ℕ). told_value (field_told i j o s)) z, told-kind i o s)

    member : k ≡ 4 → t.value ≤ 4294967295
    member z = omega (arith, ap told_value e, ap (λ (j : ℕ). told_value (field_told i j o s)) z, told-member i o s)

-- ---- a turn of a row's loop, which hands over `&s[p..]`

pub row-start : (i : ℕ) (s : List ℕ) → row_in i s ≡ row_from 6 0 i no_values 0 s
unfolding row_in
row-start i s = refl

pub row-end : (k i : ℕ) (vs : List ℕ) (p : ℕ) (s : List ℕ) → 6 ≤ k → good_row p vs ≡ row_from (6 - k) k i vs p s
unfolding row_from
row-end k i vs p s h = let z : 6 - k ≡ 0 = omega arith in rw z

module _ (k i : ℕ) (vs : List ℕ) (p : ℕ) (s : List ℕ) (x : Result FieldRead FieldFault) (e : x ≡ field_told i k (get_or vs 3 0) (take (length s - p) (drop p s))) where
  here : x ≡ field_told i k (get_or vs 3 0) (drop p s)
  here = e ∙ ap (field_told i k (get_or vs 3 0)) (part-rest p s)

  module _ (t : FieldRead) (g : x ≡ Ok t) where
    pub turn-told : field_told i k (get_or vs 3 0) (drop p s) ≡ Ok t
    turn-told = sym here ∙ g

    pub turn-fits : p ≤ length s → p + t.used ≤ length s
    turn-fits h = omega (arith, told-fits i k (get_or vs 3 0) (drop p s) t turn-told, length-drop p s)

  module _ (h : k < 6) where
    left : 6 - k ≡ suc (6 - suc k)
    left = omega arith

    pub turn-good : (t : FieldRead) → x ≡ Ok t
        → row_from (6 - k) k i vs p (drop p s) ≡ row_from (6 - (k + 1)) (k + 1) i (set vs k t.value) (p + t.used) (drop (p + t.used) s)
    turn-good t g = rw (add-one k, left, ← drop-drop t.used p s) (row-good (6 - suc k) k i vs p (drop p s) t (sym here ∙ g))

    pub turn-bad : (f : FieldFault) → x ≡ Err f → row_from (6 - k) k i vs p (drop p s) ≡ Err (record { fault = f; column = k + 1; place = p })
    turn-bad f g = rw left (row-bad (6 - suc k) k i vs p (drop p s) f (sym here ∙ g))
