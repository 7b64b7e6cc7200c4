-- Texts of fields, and how a field is read from them.
--     Text, text_of, of-text       the two texts of a field in which nothing ends it
--     stretch-at, stretch-free     what stands before the first quote, comma, CR or LF
--     ends-comma, ends-row, ends-file      what an ending says of what stands there
--     FieldIs, field-complete      a text of a field, with an end behind it, is read as that field
--     Stands, field-sound          a field that is read stands there by one of its texts
-- Assumes nothing.
use mathlib.Core.Path.{◌≡◌, refl, sym, ap, ◌∙◌, subst}
use mathlib.Core.Bool.{Bool, true, false, not}
use mathlib.Core.List.{List, [], ◌∷◌, ◌++◌, append_assoc}
use mathlib.Core.Logic.{◌⊎◌, inl, inr, ⊎_elim}
use Prim.Native.Nat.{ℕ, suc, ◌+◌, ◌≤◌, ◌<◌}
use native.Mathlib.Omega.{arith}
use lib.Dec.{eqb, leb}
use lib.ListN.{length, get_or, take, drop, length-append, take-append-drop, get_or-eq_default}
use lib.Seq.{take_at, drop_at, drop-cons, get_or_at, length-take-le}
use borrow.Author.Tests.{leb-true, eqb-true, eq-eqb, ne_eqb, not-true}
use Rattle.numbers.specs.Words.{when◌then◌else◌, ◌and◌, ◌or◌}
use Rattle.numbers.specs.Numbers.{within}
use Rattle.numbers.proofs.WordLaws.{split, if-true, if-false, and_both, and-true, or_left}
use Rattle.numbers.proofs.NumberLaws.{eq-or-not, le-or-lt}
use Rattle.csv_table.specs.Rows.{quote, comma, crlf, is_text, is_quotable, all_of, quotes_doubled, quoted, FieldText}
use Rattle.csv_table.specs.Fields.{stops, stretch, ending, ending_size, field_as, plain_field, quoted_field, field_at_front, content}
use Rattle.csv_table.specs.declared.FieldEnd.{FieldEnd}
use Rattle.csv_table.specs.declared.FieldEnd.TheVariants.{Comma, Line, File}
use Rattle.csv_table.specs.declared.Field.{Field}
use Rattle.std.specs.Prelude.{Option, Some, None, unwrap_or}
use Rattle.std.proofs.lemmas.Option.{none-some}
use Rattle.csv_table.proofs.FieldLaws.{stretch-le}

-- a byte that ends no field
abbrev pub free : ℕ → Bool
free b = not (stops b)

-- the two texts of a field of such bytes
abbrev pub Text : (f t : List ℕ) → Type 0
Text f t = (t ≡ f) ⊎ (t ≡ quote ∷ f ++ quote ∷ [])

doubled-free : (f : List ℕ) → all_of free f ≡ true → quotes_doubled f ≡ f
unfolding quotes_doubled all_of stops
doubled-free [] h = refl
doubled-free (b ∷ f) h =
    let p = and_both (free b) (all_of free f) h in
    let q = or_left (eqb b quote) _ (not-true (stops b) p.0) in
    if-false _ _ _ q ∙ ap (λ (s : List ℕ). b ∷ s) (doubled-free f p.1)

pub text_of : (f t : List ℕ) → all_of free f ≡ true → FieldText f t → Text f t
unfolding quoted
text_of f t h = ⊎_elim (λ p. inl p.0) (λ p. inr (p.0 ∙ ap (λ (s : List ℕ). quote ∷ s ++ quote ∷ []) (doubled-free f h)))

text-quotable : (f : List ℕ) → all_of is_text f ≡ true → all_of is_quotable f ≡ true
unfolding all_of is_quotable ◌or◌
text-quotable [] h = refl
text-quotable (b ∷ f) h =
    let p = and_both (is_text b) (all_of is_text f) h in
    and-true _ _ (rw p.0) (text-quotable f p.1)

-- a byte of a plain field ends none
text-byte : (b : ℕ) → is_text b ≡ true → free b ≡ true
unfolding is_text within stops ◌or◌
text-byte b h =
    let p = and_both (within 32 126 b) (not (eqb b quote) and not (eqb b comma)) h in
    let q = and_both (not (eqb b quote)) (not (eqb b comma)) p.1 in
    let l = leb-true 32 b (and_both (leb 32 b) (leb b 126) p.0).0 in
    rw (not-true (eqb b quote) q.0, not-true (eqb b comma) q.1, ne_eqb b 13 (λ e. omega arith), ne_eqb b 10 (λ e. omega arith))

pub text-free : (f : List ℕ) → all_of is_text f ≡ true → all_of free f ≡ true
unfolding all_of
text-free [] h = refl
text-free (b ∷ f) h =
    let p = and_both (is_text b) (all_of is_text f) h in
    and-true _ _ (text-byte b p.0) (text-free f p.1)

pub of-text : (f t : List ℕ) → all_of is_text f ≡ true → Text f t → FieldText f t
unfolding quoted
of-text f t h =
    ⊎_elim (λ p. inl (p, h))
    (λ p. inr (p ∙ ap (λ (s : List ℕ). quote ∷ s ++ quote ∷ []) (sym (doubled-free f (text-free f h))), text-quotable f h))

-- ---- stretches

pub stretch-at : (f z : List ℕ) → all_of free f ≡ true → stretch z ≡ 0 → stretch (f ++ z) ≡ length f
unfolding stretch all_of
stretch-at [] z h e = e
stretch-at (b ∷ f) z h e =
    let p = and_both (free b) (all_of free f) h in
    if-false _ _ _ (not-true (stops b) p.0) ∙ ap suc (stretch-at f z p.1 e)

pub stretch-free : (s : List ℕ) → all_of free (take (stretch s) s) ≡ true
unfolding stretch all_of
stretch-free [] = refl
stretch-free (b ∷ s) =
    split (λ (n : ℕ). all_of free (take n (b ∷ s)) ≡ true) (stops b) 0 (suc (stretch s)) (λ _. refl) (λ q. and-true _ _ (ap not q) (stretch-free s))

-- ---- endings

pub ending-cons : (b : ℕ) (z : List ℕ)
    → ending (b ∷ z) ≡ (when eqb b comma then Some Comma else when eqb b 13 and eqb (get_or z 0 0) 10 then Some Line else None)
unfolding ending
ending-cons b z = if-false _ _ _ (ne_eqb (suc (length z)) 0 (λ e. omega arith))

pub other : (m n : ℕ) → m < n → m ≡ n → ⊥
other m n h e = omega arith

pub past : (m n : ℕ) → n < m → m ≡ n → ⊥
past m n h e = omega arith

-- a number for each way to end, and for none
way : Option FieldEnd → ℕ
way None = 0
way (Some Comma) = 1
way (Some Line) = 2
way (Some File) = 3

-- what stands behind a field that isn't the last: a comma
pub ends-comma : (z : List ℕ) → ending z ≡ Some Comma → z ≡ comma ∷ drop 1 z
unfolding ending when◌then◌else◌ way
ends-comma [] e = absurd (past 3 1 (omega arith) (ap way e))
ends-comma (b ∷ z) e =
    let P : Option FieldEnd → Type 0 = λ (k : Option FieldEnd). k ≡ Some Comma → b ∷ z ≡ comma ∷ z in
    split P (eqb b comma) (Some Comma) (when eqb b 13 and eqb (get_or z 0 0) 10 then Some Line else None) (λ q _. ap (λ (x : ℕ). x ∷ z) (eqb-true b comma q))
    (λ _. split P (eqb b 13 and eqb (get_or z 0 0) 10) (Some Line) None (λ _ d. absurd (past 2 1 (omega arith) (ap way d))) (λ _ d. absurd (other 0 1 (omega arith) (ap way d))))
    (sym (ending-cons b z) ∙ e)

-- behind the last one: CRLF, or nothing
second : (z : List ℕ) → get_or z 0 0 ≡ 10 → z ≡ 10 ∷ drop 1 z
second [] e = absurd (other 0 10 (omega arith) e)
second (c ∷ z) e = ap (λ (x : ℕ). x ∷ z) e

pub ends-row : (z : List ℕ) → ending z ≡ Some Line → z ≡ crlf ++ drop 2 z
unfolding ending when◌then◌else◌ way
ends-row [] e = absurd (past 3 2 (omega arith) (ap way e))
ends-row (b ∷ z) e =
    let P : Option FieldEnd → Type 0 = λ (k : Option FieldEnd). k ≡ Some Line → b ∷ z ≡ 13 ∷ 10 ∷ drop 1 z in
    split P (eqb b comma) (Some Comma) (when eqb b 13 and eqb (get_or z 0 0) 10 then Some Line else None) (λ _ d. absurd (other 1 2 (omega arith) (ap way d)))
    (λ _. split P (eqb b 13 and eqb (get_or z 0 0) 10) (Some Line) None
    (λ q _. let p = and_both (eqb b 13) (eqb (get_or z 0 0) 10) q in λ i. eqb-true b 13 p.0 i ∷ second z (eqb-true (get_or z 0 0) 10 p.1) i)
    (λ _ d. absurd (other 0 2 (omega arith) (ap way d))))
    (sym (ending-cons b z) ∙ e)

pub ends-file : (z : List ℕ) → ending z ≡ Some File → z ≡ []
unfolding way
ends-file [] e = refl
ends-file (b ∷ z) e =
    let P : Option FieldEnd → Type 0 = λ (k : Option FieldEnd). k ≡ Some File → b ∷ z ≡ [] in
    split P (eqb b comma) (Some Comma) (when eqb b 13 and eqb (get_or z 0 0) 10 then Some Line else None) (λ _ d. absurd (other 1 3 (omega arith) (ap way d)))
    (λ _. split P (eqb b 13 and eqb (get_or z 0 0) 10) (Some Line) None (λ _ d. absurd (other 2 3 (omega arith) (ap way d))) (λ _ d. absurd (other 0 3 (omega arith) (ap way d))))
    (sym (ending-cons b z) ∙ e)

-- ---- a text read

-- how a field is read that begins a run
pub record FieldIs (s f : List ℕ) (used : ℕ) (ends : FieldEnd) : Type 0 where
  pub field : Field
  pub there : field_at_front s ≡ Some field
  pub ends_so : field.ends ≡ ends
  pub says : content field s ≡ f
  pub takes : field.used ≡ used

first-free : (f z : List ℕ) → 1 ≤ length f → all_of free f ≡ true → eqb (get_or (f ++ z) 0 0) quote ≡ false
unfolding all_of stops
first-free [] z l h = absurd (none l)
  where
    none : 1 ≤ 0 → ⊥
    none p = omega arith
first-free (b ∷ f) z l h = or_left (eqb b quote) _ (not-true (stops b) (and_both (free b) (all_of free f) h).0)

plain-is : (f z : List ℕ) → 1 ≤ length f → all_of free f ≡ true → stretch z ≡ 0 → field_at_front (f ++ z) ≡ field_as 0 (length f) 0 (ending z)
unfolding field_at_front plain_field
plain-is f z l h e =
    if-false _ _ _ (first-free f z l h)
    ∙ (λ i. field_as 0 (stretch-at f z h e i) 0 (ending (drop (stretch-at f z h e i) (f ++ z))))
    ∙ ap (λ (y : List ℕ). field_as 0 (length f) 0 (ending y)) (drop_at f z (length f) refl)

quotes-length : (f : List ℕ) → length (quote ∷ f ++ quote ∷ []) ≡ 2 + length f
quotes-length f = omega (arith, length-append (quote ∷ f) (quote ∷ []))

quoted-is : (f z : List ℕ) → all_of free f ≡ true → field_at_front (quote ∷ f ++ quote ∷ z) ≡ field_as 1 (length f) 1 (ending z)
unfolding field_at_front quoted_field stretch stops ◌or◌ when◌then◌else◌
quoted-is f z h =
    let n : stretch (f ++ quote ∷ z) ≡ length f = stretch-at f (quote ∷ z) h refl in
    let g : get_or (quote ∷ f ++ quote ∷ z) (1 + length f) 0 ≡ quote = get_or_at (quote ∷ f) quote z 0 (1 + length f) (omega arith) in
    let d : drop (2 + length f) (quote ∷ f ++ quote ∷ z) ≡ z =
    ap (drop (2 + length f)) (sym (append_assoc (quote ∷ f) (quote ∷ []) z))
    ∙ drop_at (quote ∷ f ++ quote ∷ []) z (2 + length f) (omega (arith, quotes-length f)) in
    rw n (if-true _ _ _ (eq-eqb _ _ g) ∙ ap (λ (y : List ℕ). field_as 1 (length f) 1 (ending y)) d)

module _ (f z : List ℕ) (l : 1 ≤ length f) (h : all_of free f ≡ true) (e : stretch z ≡ 0) (k : FieldEnd) (g : ending z ≡ Some k) where
  plain-complete : FieldIs (f ++ z) f (length f + ending_size k) k
  plain-complete =
      record {
        field = record { start = 0; size = length f; used = 0 + length f + 0 + ending_size k; ends = k };
        there = plain-is f z l h e ∙ ap (field_as 0 (length f) 0) g;
        ends_so = refl;
        says = take_at f z (length f) refl;
        takes = omega arith;
      }

  quoted-complete : FieldIs (quote ∷ f ++ quote ∷ [] ++ z) f (length (quote ∷ f ++ quote ∷ []) + ending_size k) k
  quoted-complete =
      subst (λ (y : List ℕ). FieldIs y f (length (quote ∷ f ++ quote ∷ []) + ending_size k) k)
      (sym (append_assoc (quote ∷ f) (quote ∷ []) z))
      (record {
        field = record { start = 1; size = length f; used = 1 + length f + 1 + ending_size k; ends = k };
        there = quoted-is f z h ∙ ap (field_as 1 (length f) 1) g;
        ends_so = refl;
        says = take_at f (quote ∷ z) (length f) refl;
        takes = omega (arith, quotes-length f);
      })

  pub field-complete : (t : List ℕ) → Text f t → FieldIs (t ++ z) f (length t + ending_size k) k
  field-complete t =
      ⊎_elim (λ p. subst (λ (y : List ℕ). FieldIs (y ++ z) f (length y + ending_size k) k) (sym p) plain-complete)
      (λ p. subst (λ (y : List ℕ). FieldIs (y ++ z) f (length y + ending_size k) k) (sym p) quoted-complete)

-- ---- a field that is read

pub record Stands (s : List ℕ) (x : Field) : Type 0 where
  pub t : List ℕ
  pub z : List ℕ
  pub is : s ≡ t ++ z
  pub text : Text (content x s) t
  pub free-content : all_of free (content x s) ≡ true
  pub ends_so : ending z ≡ Some x.ends
  pub takes : x.used ≡ length t + ending_size x.ends

-- a field of these parts
module _ (s : List ℕ) (x : Field) (a n q : ℕ) where
  parts-by : (e : Option FieldEnd) → field_as a n q e ≡ Some x
      → ((k : FieldEnd) → e ≡ Some k → Stands s (record { start = a; size = n; used = a + n + q + ending_size k; ends = k })) → Stands s x
  parts-by None h g = absurd (none-some x h)
  parts-by (Some k) h g =
      let r : Field = record { start = a; size = n; used = a + n + q + ending_size k; ends = k } in
      let i : r ≡ x = ap (λ (y : Option Field). unwrap_or y r) h in
      subst (Stands s) i (g k refl)

plain-sound : (s : List ℕ) (x : Field) → plain_field s ≡ Some x → Stands s x
unfolding plain_field
plain-sound s x q =
    let n = stretch s in
    parts-by s x 0 n 0 (ending (drop n s)) q λ k e.
    record {
      t = take n s;
      z = drop n s;
      is = sym (take-append-drop n s);
      text = inl refl;
      free-content = stretch-free s;
      ends_so = e;
      takes = omega (arith, length-take-le n s (stretch-le s));
    }

one-behind : (b n : ℕ) (s : List ℕ) → get_or (b ∷ s) (1 + n) 0 ≡ get_or s n 0
one-behind b n s = let e : 1 + n ≡ suc n = omega arith in ap (λ (k : ℕ). get_or (b ∷ s) k 0) e

there : (s : List ℕ) (n : ℕ) → get_or s n 0 ≡ quote → n < length s
there s n e = ⊎_elim (λ h. absurd (other 0 quote (omega arith) (sym (get_or-eq_default s 0 {n = n} h) ∙ e))) (λ h. h) (le-or-lt (length s) n)

closed_is : (n : ℕ) (s : List ℕ) → get_or s n 0 ≡ quote → quote ∷ s ≡ quote ∷ take n s ++ quote ∷ [] ++ drop (suc n) s
closed_is n s g =
    ap (λ (y : List ℕ). quote ∷ y)
    (sym (take-append-drop n s)
    ∙ ap (λ (y : List ℕ). take n s ++ y) (drop-cons s n 0 (there s n g) ∙ ap (λ (b : ℕ). b ∷ drop (suc n) s) g)
    ∙ sym (append_assoc (take n s) (quote ∷ []) (drop (suc n) s)))

quoted-sound : (s : List ℕ) (x : Field) → quoted_field (quote ∷ s) ≡ Some x → Stands (quote ∷ s) x
unfolding quoted_field
quoted-sound s x =
    let n = stretch s in
    split (λ (y : Option Field). y ≡ Some x → Stands (quote ∷ s) x) (eqb (get_or (quote ∷ s) (1 + n) 0) quote) _ _
    (λ g q.
    let d : drop (2 + n) (quote ∷ s) ≡ drop (suc n) s = (let e : 2 + n ≡ suc (suc n) = omega arith in ap (λ (k : ℕ). drop k (quote ∷ s)) e) in
    parts-by (quote ∷ s) x 1 n 1 (ending (drop (2 + n) (quote ∷ s))) q λ k e.
    record {
      t = quote ∷ take n s ++ quote ∷ [];
      z = drop (suc n) s;
      is = closed_is n s (sym (one-behind quote n s) ∙ eqb-true _ _ g);
      text = inr refl;
      free-content = stretch-free s;
      ends_so = sym (ap ending d) ∙ e;
      takes = omega (arith, quotes-length (take n s), length-take-le n s (stretch-le s));
    })
    (λ _ q. absurd (none-some x q))

pub field-sound : (s : List ℕ) (x : Field) → field_at_front s ≡ Some x → Stands s x
unfolding field_at_front when◌then◌else◌
field-sound [] x q = plain-sound [] x q
field-sound (b ∷ s) x q =
    ⊎_elim
    (λ e. subst (λ (c : ℕ). field_at_front (c ∷ s) ≡ Some x → Stands (c ∷ s) x) (sym e) (quoted-sound s x) q)
    (λ e. plain-sound (b ∷ s) x (sym (if-false _ _ _ (ne_eqb b quote e)) ∙ q))
    (eq-or-not b quote)
