-- Laws of fields.
--     stretch-stop, stretch-next, stretch-end    a stretch, a byte at a time
--     plain-made, quoted-open    a field put together
--     kind-bound      how large an operation's number is
--     judged-long, judged-last, judged-short, judged-more    a field judged, by how it ends
--     told-is, told-made    a field told
--     stretch-le, told-used    a field stands within what is left
--     told-some     a good field that isn't the last takes a byte or more
--     told-value    how large what it says is
-- Assumes nothing.
use mathlib.Core.Path.{◌≡◌, refl, sym, ap, ◌∙◌, subst}
use mathlib.Core.Bool.{Bool, true, false, not, false≢true}
use mathlib.Core.List.{List, [], ◌∷◌}
use Prim.Native.Nat.{ℕ, suc, ◌+◌, ◌-◌, ◌≤◌, ◌<◌}
use native.Mathlib.Omega.{arith}
use lib.Dec.{eqb, ltb}
use lib.ListN.{length, get_or, take, drop, length-drop, drop_of_length-le, get_or-eq_default}
use lib.Seq.{drop-cons}
use borrow.Author.Tests.{ltb-true, ltb-false, eqb-true, eq-eqb, ne_eqb, not-false}
use Rattle.numbers.specs.Words.{when◌then◌else◌, ◌and◌}
use Rattle.numbers.proofs.WordLaws.{if-true, if-false, split, and_both}
use Rattle.std.specs.Prelude.{Option, Some, None, unwrap_or, ok_or, Result, Ok, Err}
use Rattle.csv_table.specs.Refusal.{◌>>=◌}
use denote.Enum.Bare.{sameb}
use Rattle.csv_table.specs.contracts.FieldEnd.{the_type}
use Rattle.csv_table.specs.declared.FieldEnd.{FieldEnd}
use Rattle.csv_table.specs.declared.FieldEnd.TheVariants.{Comma, Line, File}
use Rattle.csv_table.specs.declared.Field.{Field}
use Rattle.std.proofs.lemmas.Option.{none-some}
use Rattle.numbers.proofs.RunLaws.{part-rest}
use Rattle.csv_table.specs.declared.FieldRead.{FieldRead}
use Rattle.csv_table.specs.declared.refusal.FieldFault.{FieldFault}
use Rattle.csv_table.specs.declared.refusal.FieldFault.TheVariants.{Quotes, Value, TooShort, TooLong}
use Rattle.csv_table.specs.Table.{kind_word}
use Rattle.csv_table.specs.Fields.{stops, stretch, ending, ending_size, field_as, plain_field, quoted_field, field_at_front, content, same, kind_in, sense, by_comma, judged_field, field_told}
use Rattle.csv_table.proofs.Views.{Good, bad-not, told_value, told_used}

-- a place with another byte than 0 is there
there : (s : List ℕ) (i k : ℕ) → get_or s i 0 ≡ suc k → i < length s
there s i k e = go _ refl
  where
    go : (b : Bool) → ltb i (length s) ≡ b → i < length s
    go true h = ltb-true _ _ h
    go false h = let z = get_or-eq_default s 0 {n = i} (ltb-false _ _ h) in absurd (omega arith)

-- ---- a stretch

-- the bytes from i on, where none before i stops it
module _ (s : List ℕ) (i : ℕ) where
  pub stretch-stop : i < length s → stops (get_or s i 0) ≡ true → stretch (drop i s) ≡ 0
  unfolding stretch when◌then◌else◌
  stretch-stop h e = rw (drop-cons s i 0 h, e)

  pub stretch-next : i < length s → stops (get_or s i 0) ≡ false → stretch (drop i s) ≡ suc (stretch (drop (suc i) s))
  unfolding stretch when◌then◌else◌
  stretch-next h e = rw (drop-cons s i 0 h, e)

  pub stretch-end : length s ≤ i → stretch (drop i s) ≡ 0
  unfolding stretch
  stretch-end h = rw (drop_of_length-le s {i = i} h)

pub stretch-le : (s : List ℕ) → stretch s ≤ length s
unfolding stretch
stretch-le [] = omega arith
stretch-le (b ∷ s) =
    let h = stretch-le s in split (λ (k : ℕ). k ≤ suc (length s)) (stops b) 0 (suc (stretch s)) (λ _. omega arith) (λ _. omega arith)

-- ---- how a field ends

-- how many bytes that takes, 0 where none is there
abbrev pub end_size : Option FieldEnd → ℕ
end_size None = 0
end_size (Some k) = ending_size k

no-line : (b : Bool) → (when b and false then Some Line else None) ≡ None
unfolding when◌then◌else◌ ◌and◌
no-line true = refl
no-line false = refl

module _ (s : List ℕ) where
  pub ending-file : length s ≡ 0 → Some File ≡ ending s
  unfolding ending when◌then◌else◌
  ending-file h = rw (eq-eqb (length s) 0 h)

  module _ (h : 1 ≤ length s) where
    pub ending-comma : get_or s 0 0 ≡ 44 → Some Comma ≡ ending s
    unfolding ending when◌then◌else◌
    ending-comma e = rw (ne_eqb (length s) 0 (λ z. omega arith), eq-eqb _ _ e)

    module _ (e : get_or s 0 0 ≡ 44 → ⊥) where
      pub ending-line : get_or s 0 0 ≡ 13 → get_or s 1 0 ≡ 10 → Some Line ≡ ending s
      unfolding ending when◌then◌else◌ ◌and◌
      ending-line f g = rw (ne_eqb (length s) 0 (λ z. omega arith), ne_eqb _ _ e, eq-eqb _ _ f, eq-eqb _ _ g)

      pub ending-other : (get_or s 0 0 ≡ 13 → ⊥) → None ≡ ending s
      unfolding ending when◌then◌else◌ ◌and◌
      ending-other f = rw (ne_eqb (length s) 0 (λ z. omega arith), ne_eqb _ _ e, ne_eqb _ _ f)

      pub ending-cr : (get_or s 1 0 ≡ 10 → ⊥) → None ≡ ending s
      unfolding ending
      ending-cr g =
          sym (if-false _ _ _ (ne_eqb (length s) 0 (λ z. omega arith)) ∙ if-false _ _ _ (ne_eqb _ _ e) ∙ rw (ne_eqb (get_or s 1 0) 10 g) (no-line (eqb (get_or s 0 0) 13)))

ending-fits : (s : List ℕ) → end_size (ending s) ≤ length s
unfolding ending
ending-fits s =
    split P (eqb (length s) 0) _ _
    (λ _. omega arith)
    (λ n. split P (eqb (get_or s 0 0) 44) _ _
    (λ e. omega (arith, there s 0 43 (eqb-true _ _ e)))
    (λ _. split P (eqb (get_or s 0 0) 13 and eqb (get_or s 1 0) 10) _ _
    (λ e. omega (arith, there s 1 9 (eqb-true _ _ (and_both _ _ e).1)))
    (λ _. omega arith)))
  where
    P : Option FieldEnd → Type 0
    P k = end_size k ≤ length s

-- ---- a field put together, and within what is left

-- a field that is put together of its parts
joined : (a n q : ℕ) (x e : Option FieldEnd) → x ≡ e → field_as a n q x ≡ field_as a n q e
joined a n q x e g = ap (field_as a n q) g

pub field-made : (a n q u : ℕ) (k : FieldEnd) → u ≡ a + n + q + ending_size k → Some (record { start = a; size = n; used = u; ends = k }) ≡ field_as a n q (Some k)
field-made a n q u k e = λ i. Some (record { start = a; size = n; used = e i; ends = k })

module _ (s : List ℕ) where
  pub plain-made : (n : ℕ) (x : Option FieldEnd) → n ≡ stretch s → x ≡ ending (take (length s - n) (drop n s)) → field_as 0 n 0 x ≡ plain_field s
  unfolding plain_field
  plain-made n x p q =
      ap (field_as 0 n 0) (q ∙ ap ending (part-rest n s)) ∙ ap (λ (m : ℕ). field_as 0 m 0 (ending (drop m s))) p

  module _ (n : ℕ) (p : n ≡ stretch (take (length s - 1) (drop 1 s))) where
    size-is : n ≡ stretch (drop 1 s)
    size-is = p ∙ ap stretch (part-rest 1 s)

    pub quoted-open : (get_or s (1 + n) 0 ≡ 34 → ⊥) → None ≡ quoted_field s
    unfolding quoted_field
    quoted-open g = sym (if-false _ _ _ (ne_eqb _ _ (rw size-is at g)))

    pub quoted-made : (x : Option FieldEnd) → get_or s (1 + n) 0 ≡ 34 → x ≡ ending (take (length s - (2 + n)) (drop (2 + n) s)) → field_as 1 n 1 x ≡ quoted_field s
    unfolding quoted_field
    quoted-made x g q =
        ap (field_as 1 n 1) (q ∙ ap ending (part-rest (2 + n) s))
        ∙ ap (λ (m : ℕ). field_as 1 m 1 (ending (drop (2 + m) s))) size-is
        ∙ sym (if-true _ _ _ (eq-eqb _ _ (rw size-is at g)))

    pub quoted-fits : 1 ≤ length s → 1 + n ≤ length s
    quoted-fits h = omega (arith, size-is, stretch-le (drop 1 s), length-drop 1 s)

  -- what a field says of what is left, where it is there
  abbrev pub Within : Option Field → Type 0
  Within x = (f : Field) → x ≡ Some f → (f.used ≤ length s) × (f.start + f.size ≤ length s) × (f.ends ≡ Comma → 1 ≤ f.used)

  within-as : (a n q : ℕ) (x : Option FieldEnd) → a + n + q + end_size x ≤ length s → Within (field_as a n q x)
  within-as a n q None h f e = absurd (none-some f e)
  within-as a n q (Some k) h f e =
      let r : Field = record { start = a; size = n; used = a + n + q + ending_size k; ends = k } in
      let i : r ≡ f = ap (λ (y : Option Field). unwrap_or y r) e in
      let P : Field → Type 0 = λ (y : Field). (y.used ≤ length s) × (y.start + y.size ≤ length s) × (y.ends ≡ Comma → 1 ≤ y.used) in
      subst P i (h, omega arith, λ z. omega (arith, ap ending_size z))

  plain-within : Within (plain_field s)
  unfolding plain_field
  plain-within =
      within-as 0 (stretch s) 0 (ending (drop (stretch s) s)) (omega (arith, stretch-le s, ending-fits (drop (stretch s) s), length-drop (stretch s) s))

  quoted-within : Within (quoted_field s)
  unfolding quoted_field
  quoted-within =
      let n = stretch (drop 1 s) in
      split Within (eqb (get_or s (1 + n) 0) 34) _ _
      (λ e. within-as 1 n 1 (ending (drop (2 + n) s))
      (omega (arith, there s (1 + n) 33 (eqb-true _ _ e), ending-fits (drop (2 + n) s), length-drop (2 + n) s)))
      (λ _ f z. absurd (none-some f z))

  pub field-within : Within (field_at_front s)
  unfolding field_at_front
  field-within = split Within (eqb (get_or s 0 0) 34) _ _ (λ _. quoted-within) (λ _. plain-within)

-- ---- what a content says

pub kind-bound : (t : List ℕ) → unwrap_or (kind_in t) 0 ≤ 3
unfolding kind_in
kind-bound t =
    split P (same t (kind_word 1)) _ _
    (λ _. omega arith)
    (λ _. split P (same t (kind_word 2)) _ _
    (λ _. omega arith)
    (λ _. split P (same t (kind_word 3)) _ _ (λ _. omega arith) (λ _. omega arith)))
  where
    P : Option ℕ → Type 0
    P n = unwrap_or n 0 ≤ 3

-- ---- a field judged

-- the code's test of it
pub same-comma : (k : FieldEnd) → by_comma k ≡ sameb the_type k Comma
same-comma Comma = refl
same-comma Line = refl
same-comma File = refl

module _ (f : Field) (v : ℕ) where
  pub judged-long : by_comma f.ends ≡ true → Err TooLong ≡ judged_field true f v
  unfolding judged_field ◌and◌
  judged-long e = sym (if-true _ _ _ e)

  pub judged-last : by_comma f.ends ≡ false → Ok (record { value = v; used = f.used }) ≡ judged_field true f v
  unfolding judged_field ◌and◌
  judged-last e = sym (if-false _ _ _ e ∙ if-false _ _ _ refl)

  pub judged-short : by_comma f.ends ≡ false → Err TooShort ≡ judged_field false f v
  unfolding judged_field ◌and◌
  judged-short e = sym (if-false _ _ _ refl ∙ if-true _ _ _ (ap not e))

  pub judged-more : by_comma f.ends ≡ true → Ok (record { value = v; used = f.used }) ≡ judged_field false f v
  unfolding judged_field ◌and◌
  judged-more e = sym (if-false _ _ _ refl ∙ if-false _ _ _ (ap not e))

comma-is : (k : FieldEnd) → by_comma k ≡ true → k ≡ Comma
comma-is Comma e = refl
comma-is Line e = absurd (false≢true e)
comma-is File e = absurd (false≢true e)

-- what holds of every bad field, and of a good one
judged-by : (P : Result FieldRead FieldFault → Type 0) (last : Bool) (f : Field) (v : ℕ) → ((e : FieldFault) → P (Err e))
    → ((not last and not (by_comma f.ends)) ≡ false → P (Ok (record { value = v; used = f.used }))) → P (judged_field last f v)
unfolding judged_field
judged-by P last f v w g =
    split P (last and by_comma f.ends) _ _ (λ _. w TooLong) (λ _. split P (not last and not (by_comma f.ends)) _ _ (λ _. w TooShort) g)

-- a field told: none, or one whose content says nothing, or one judged
module _ (P : Result FieldRead FieldFault → Type 0) (i k o : ℕ) (s : List ℕ) (w : (e : FieldFault) → P (Err e)) where
  by-value : (f : Field) (n : Option ℕ) → sense i k o (content f s) ≡ n → ((v : ℕ) → sense i k o (content f s) ≡ Some v → P (judged_field (eqb k 5) f v))
      → P (ok_or n Value >>= judged_field (eqb k 5) f)
  by-value f None e g = w Value
  by-value f (Some v) e g = g v e

  by-field : (x : Option Field) → field_at_front s ≡ x
      → ((f : Field) (v : ℕ) → field_at_front s ≡ Some f → sense i k o (content f s) ≡ Some v → P (judged_field (eqb k 5) f v))
      → P (ok_or x Quotes >>= λ f. ok_or (sense i k o (content f s)) Value >>= judged_field (eqb k 5) f)
  by-field None e g = w Quotes
  by-field (Some f) e g = by-value f (sense i k o (content f s)) refl (λ v z. g f v e z)

  pub told-by : ((f : Field) (v : ℕ) → field_at_front s ≡ Some f → sense i k o (content f s) ≡ Some v → P (judged_field (eqb k 5) f v)) → P (field_told i k o s)
  unfolding field_told
  told-by = by-field (field_at_front s) refl

module _ (i k o : ℕ) (s : List ℕ) where
  pub told-used : told_used (field_told i k o s) ≤ length s
  told-used =
      let P : Result FieldRead FieldFault → Type 0 = λ (t : Result FieldRead FieldFault). told_used t ≤ length s in
      told-by P i k o s (λ _. omega arith)
      (λ f v e _. judged-by P (eqb k 5) f v (λ _. omega arith) (λ _. (field-within s f e).0))

  -- a field that isn't the last takes a byte or more
  pub told-some : k < 5 → Good (field_told i k o s) → 1 ≤ told_used (field_told i k o s)
  unfolding ◌and◌
  told-some h =
      let P : Result FieldRead FieldFault → Type 0 = λ (t : Result FieldRead FieldFault). Good t → 1 ≤ told_used t in
      let z : eqb k 5 ≡ false = ne_eqb k 5 (λ e. omega arith) in
      told-by P i k o s (λ _. bad-not)
      (λ f v e _. rw z (judged-by P false f v (λ _. bad-not) (λ q _. (field-within s f e).2 (comma-is f.ends (not-false _ q)))))

  -- how large what it says is
  pub told-value : (most : ℕ) → ((t : List ℕ) → unwrap_or (sense i k o t) 0 ≤ most) → told_value (field_told i k o s) ≤ most
  told-value most b =
      let P : Result FieldRead FieldFault → Type 0 = λ (t : Result FieldRead FieldFault). told_value t ≤ most in
      told-by P i k o s (λ _. omega arith)
      (λ f v _ e. judged-by P (eqb k 5) f v (λ _. omega arith) (λ _. omega (arith, b (content f s), ap (λ (n : Option ℕ). unwrap_or n 0) e)))

  pub told-is : (ok_or (field_at_front s) Quotes >>= λ f. ok_or (sense i k o (content f s)) Value >>= judged_field (eqb k 5) f) ≡ field_told i k o s
  unfolding field_told
  told-is = refl

  pub told-made : (f : Field) → field_at_front s ≡ Some f → (n : Option ℕ) → n ≡ sense i k o (take (f.start + f.size - f.start) (drop f.start s))
      → (ok_or n Value >>= judged_field (eqb k 5) f) ≡ field_told i k o s
  unfolding field_told
  told-made f e n g =
      let y : f.start + f.size - f.start ≡ f.size = omega arith in
      ap (λ (m : Option ℕ). ok_or m Value >>= judged_field (eqb k 5) f) (g ∙ ap (λ (j : ℕ). sense i k o (take j (drop f.start s))) y)
      ∙ ap (λ (x : Option Field). ok_or x Quotes >>= λ h. ok_or (sense i k o (content h s)) Value >>= judged_field (eqb k 5) h) (sym e)
