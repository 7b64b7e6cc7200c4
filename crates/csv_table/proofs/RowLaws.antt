-- Texts of rows, and how a row is read from them.
--     EndsRow                      what can stand behind a row: nothing, or CRLF
--     SaysAll, put_all              contents that say values one after the other, and the values put in their places
--     told-complete, told-sound    one field, with what stands behind it
--     row-complete                 a text of contents that say something is read as a good row with what they say
--     RowIs, row-sound             a good row is such a text
-- Assumes nothing.
use mathlib.Core.Path.{◌≡◌, refl, sym, ap, ◌∙◌, subst}
use mathlib.Core.Bool.{Bool, true, false, not, false≢true}
use mathlib.Core.List.{List, [], ◌∷◌, ◌++◌, append_assoc}
use mathlib.Core.Logic.{◌⊎◌, inl, inr, ⊎_elim}
use Prim.Native.Nat.{ℕ, zero, suc, ◌+◌, ◌≤◌, ◌<◌}
use native.Mathlib.Omega.{arith}
use lib.Dec.{eqb}
use lib.ListN.{length, get_or, set, drop, length-append}
use lib.Seq.{drop_at}
use borrow.Author.Tests.{eqb-true, eq-eqb, ne_eqb, not-false}
use Rattle.numbers.specs.Words.{when◌then◌else◌, ◌and◌, ◌or◌}
use Rattle.numbers.proofs.WordLaws.{split, if-false, and_left}
use Rattle.std.specs.Prelude.{Option, Some, None, ok_or, Result, Ok, Err}
use Rattle.std.specs.Result.{is_ok}
use Rattle.csv_table.specs.Refusal.{◌>>=◌}
use Rattle.csv_table.specs.declared.refusal.FieldFault.{FieldFault}
use Rattle.csv_table.specs.declared.refusal.FieldFault.TheVariants.{Quotes, Value}
use Rattle.csv_table.proofs.Views.{Good, bad-not}
use Rattle.csv_table.specs.Rows.{comma, crlf, FieldText, RowText}
use Rattle.csv_table.specs.Fields.{stops, stretch, ending, field_at_front, content, sense, by_comma, judged_field, field_told}
use Rattle.csv_table.proofs.FieldLaws.{end_size, told-by}
use Rattle.std.proofs.lemmas.Option.{none-some}
use Rattle.csv_table.specs.declared.FieldEnd.{FieldEnd}
use Rattle.csv_table.specs.declared.FieldEnd.TheVariants.{Comma, Line, File}
use Rattle.csv_table.specs.Reading.{good_row, row_from}
use Rattle.csv_table.specs.declared.Field.{Field}
use Rattle.csv_table.specs.declared.FieldRead.{FieldRead}
use Rattle.csv_table.proofs.TextLaws.{ending-cons, text_of, of-text, text-free, ends-comma, ends-row, ends-file, field-complete, field-sound}
use Rattle.csv_table.proofs.ReadingLaws.{row_step, row-bad}
use Rattle.csv_table.proofs.SenseLaws.{sense-text}

-- ---- what stands behind a field

abbrev pub EndsRow : List ℕ → Type 0
EndsRow z = (z ≡ []) ⊎ ((b : List ℕ) × (z ≡ crlf ++ b))

-- the ending of a field in a row whose last field it is, or isn't
pub record Closes (last : Bool) (z : List ℕ) : Type 0 where
  pub short : stretch z ≡ 0
  pub ends : FieldEnd
  pub is : ending z ≡ Some ends
  pub fits : by_comma ends ≡ not last

comma-ends : (z : List ℕ) → ending (comma ∷ z) ≡ Some Comma
unfolding when◌then◌else◌
comma-ends z = ending-cons comma z

pub row_ends : (z : List ℕ) → ending (crlf ++ z) ≡ Some Line
unfolding when◌then◌else◌ ◌and◌
row_ends z = ending-cons 13 (10 ∷ z)

pub file-ends : ending [] ≡ Some File
unfolding ending when◌then◌else◌
file-ends = refl

closes-comma : (z : List ℕ) → Closes false (comma ∷ z)
unfolding stretch stops ◌or◌ when◌then◌else◌
closes-comma z = record { short = refl; ends = Comma; is = comma-ends z; fits = refl }

closes-row : (z : List ℕ) → EndsRow z → Closes true z
unfolding stretch stops ◌or◌ when◌then◌else◌
closes-row z =
    ⊎_elim
    (λ e. subst (Closes true) (sym e) (record { short = refl; ends = File; is = file-ends; fits = refl }))
    (λ e. subst (Closes true) (sym e.1) (record { short = refl; ends = Line; is = row_ends e.0; fits = refl }))

by-comma-is : (k : FieldEnd) → by_comma k ≡ true → k ≡ Comma
by-comma-is Comma e = refl
by-comma-is Line e = absurd (false≢true e)
by-comma-is File e = absurd (false≢true e)

-- and back
closed-comma : (z : List ℕ) → Closes false z → z ≡ comma ∷ drop 1 z
closed-comma z c = ends-comma z (c.is ∙ ap Some (by-comma-is c.ends c.fits))

-- ---- a field judged

abbrev pub told_as : (v u : ℕ) → Result FieldRead FieldFault
told_as v u = Ok (record { value = v; used = u })

judged-good : (last : Bool) (f : Field) (v : ℕ) → by_comma f.ends ≡ not last → judged_field last f v ≡ told_as v f.used
unfolding judged_field ◌and◌
judged-good true f v l = if-false _ _ _ l ∙ if-false _ _ _ refl
judged-good false f v l = if-false _ _ _ refl ∙ if-false _ _ _ (ap not l)

fit : (l b : Bool) → (l and b) ≡ false → (not l and not b) ≡ false → b ≡ not l
unfolding ◌and◌
fit true b p q = p
fit false b p q = not-false b q

judged-fits : (last : Bool) (f : Field) (v : ℕ) → Good (judged_field last f v) → by_comma f.ends ≡ not last
unfolding judged_field
judged-fits last f v = split P _ _ _ (λ _. bad-not) (λ a. split P _ _ _ (λ _. bad-not) (λ b _. fit last (by_comma f.ends) a b))
  where
    P : Result FieldRead FieldFault → Type 0
    P x = Good x → by_comma f.ends ≡ not last

module _ (i k o : ℕ) (s : List ℕ) where
  told-good : (f : Field) (v : ℕ) → field_at_front s ≡ Some f → sense i k o (content f s) ≡ Some v → by_comma f.ends ≡ not (eqb k 5)
      → field_told i k o s ≡ told_as v f.used
  unfolding field_told
  told-good f v e t l =
      ap (λ (x : Option Field). ok_or x Quotes >>= λ h. ok_or (sense i k o (content h s)) Value >>= judged_field (eqb k 5) h) e
      ∙ ap (λ (n : Option ℕ). ok_or n Value >>= judged_field (eqb k 5) f) t
      ∙ judged-good (eqb k 5) f v l

  -- what a field without fault is
  record Judged : Type 0 where
    f : Field
    v : ℕ
    there : field_at_front s ≡ Some f
    says : sense i k o (content f s) ≡ Some v
    fits : by_comma f.ends ≡ not (eqb k 5)

  judged-inv : Good (field_told i k o s) → Judged
  judged-inv =
      told-by (λ (x : Result FieldRead FieldFault). Good x → Judged) i k o s (λ _. bad-not)
      (λ f v e z h. record { f = f; v = v; there = e; says = z; fits = judged-fits (eqb k 5) f v h })

-- ---- a field with what stands behind it

module _ (i k o : ℕ) (f t z : List ℕ) (v : ℕ) (l : k < 6) (says : sense i k o f ≡ Some v) (x : FieldText f t) (c : Closes (eqb k 5) z) where
  told-complete : field_told i k o (t ++ z) ≡ told_as v (length t + end_size (ending z))
  told-complete =
      let y = sense-text i k o v f l says in
      let w = text-free f y.text in
      let g = field-complete f z y.some w c.short c.ends c.is t (text_of f t w x) in
      told-good i k o (t ++ z) g.field v g.there (ap (sense i k o) g.says ∙ says) (ap by_comma g.ends_so ∙ c.fits)
      ∙ ap (told_as v) (g.takes ∙ ap (λ (e : Option FieldEnd). length t + end_size e) (sym c.is))

-- a field without fault: its content, its text, and what stands behind it
pub record ToldIs (i k o : ℕ) (s : List ℕ) : Type 0 where
  pub f : List ℕ
  pub v : ℕ
  pub t : List ℕ
  pub z : List ℕ
  pub is : s ≡ t ++ z
  pub text : FieldText f t
  pub says : sense i k o f ≡ Some v
  pub closes : Closes (eqb k 5) z
  pub takes : field_told i k o s ≡ told_as v (length t + end_size (ending z))

-- what ends a field stops it
stop-at : (b c : ℕ) (z : List ℕ) → b ≡ c → stretch (c ∷ z) ≡ 0 → stretch (b ∷ z) ≡ 0
stop-at b c z e h = ap (λ (x : ℕ). stretch (x ∷ z)) e ∙ h

ending-short : (z : List ℕ) (k : FieldEnd) → ending z ≡ Some k → stretch z ≡ 0
unfolding stretch stops ◌or◌ when◌then◌else◌
ending-short [] k h = refl
ending-short (b ∷ z) k h =
    split P (eqb b comma) (Some Comma) (when eqb b 13 and eqb (get_or z 0 0) 10 then Some Line else None) (λ q _. stop-at b comma z (eqb-true b comma q) refl)
    (λ _. split P (eqb b 13 and eqb (get_or z 0 0) 10) (Some Line) None (λ q _. stop-at b 13 z (eqb-true b 13 (and_left _ _ q)) refl) (λ _ g. absurd (none-some k g)))
    (sym (ending-cons b z) ∙ h)
  where
    P : Option FieldEnd → Type 0
    P e = e ≡ Some k → stretch (b ∷ z) ≡ 0

told-sound : (i k o : ℕ) (s : List ℕ) → k < 6 → Good (field_told i k o s) → ToldIs i k o s
told-sound i k o s l h =
    let j = judged-inv i k o s h in
    let c = content j.f s in
    let d = field-sound s j.f j.there in
    let y = sense-text i k o j.v c l j.says in
    record {
      f = c;
      v = j.v;
      t = d.t;
      z = d.z;
      is = d.is;
      text = of-text c d.t y.text d.text;
      says = j.says;
      closes = record { short = ending-short d.z j.f.ends d.ends_so; ends = j.f.ends; is = d.ends_so; fits = j.fits };
      takes = told-good i k o s j.f j.v j.there j.says j.fits ∙ ap (told_as j.v) (d.takes ∙ ap (λ (e : Option FieldEnd). length d.t + end_size e) (sym d.ends_so));
    }

-- ---- contents that say values

unfoldable pub SaysAll : (i k : ℕ) (vs : List ℕ) (fs : List (List ℕ)) (ws : List ℕ) → Type 0
SaysAll i k vs [] [] = Unit
SaysAll i k vs [] (w ∷ ws) = ⊥
SaysAll i k vs (f ∷ fs) [] = ⊥
SaysAll i k vs (f ∷ fs) (w ∷ ws) = (sense i k (get_or vs 3 0) f ≡ Some w) × SaysAll i (suc k) (set vs k w) fs ws

-- values from place k on
abbrev pub put_all : (vs : List ℕ) (k : ℕ) (ws : List ℕ) → List ℕ
put_all vs k [] = vs
put_all vs k (w ∷ ws) = put_all (set vs k w) (suc k) ws

row-inv : (n k i : ℕ) (vs : List ℕ) (p : ℕ) (s : List ℕ) → Good (row_from (suc n) k i vs p s) → Good (field_told i k (get_or vs 3 0) s)
row-inv n k i vs p s h = go (field_told i k (get_or vs 3 0) s) refl
  where
    go : (r : Result FieldRead FieldFault) → field_told i k (get_or vs 3 0) s ≡ r → Good (field_told i k (get_or vs 3 0) s)
    go (Ok t) e = ap is_ok e
    go (Err f) e = bad-not (ap is_ok (sym (row-bad n k i vs p s f e)) ∙ h)

-- a field and its comma passed
drop-comma : (a y : List ℕ) → drop (length a + 1) (a ++ comma ∷ y) ≡ y
drop-comma a y =
    ap (drop (length a + 1)) (sym (append_assoc a (comma ∷ []) y))
    ∙ drop_at (a ++ comma ∷ []) y (length a + 1) (omega (arith, length-append a (comma ∷ [])))

comma-size : (y : List ℕ) → end_size (ending (comma ∷ y)) ≡ 1
comma-size y = ap end_size (comma-ends y)

-- the last field, and one before others
module _ (k i : ℕ) (vs : List ℕ) (p : ℕ) (f : List ℕ) (w : ℕ) (says : sense i k (get_or vs 3 0) f ≡ Some w) where
  last-complete : (t z : List ℕ) → k ≡ 5 → FieldText f t → EndsRow z → row_from 1 k i vs p (t ++ z) ≡ good_row (p + length t + end_size (ending z)) (set vs k w)
  unfolding row_from
  last-complete t z e r x =
      let c : Closes (eqb k 5) z = subst (λ (b : Bool). Closes b z) (sym (eq-eqb k 5 e)) (closes-row z x) in
      let q : p + (length t + end_size (ending z)) ≡ p + length t + end_size (ending z) = omega arith in
      row_step 0 k i vs p (t ++ z) w (length t + end_size (ending z)) (told-complete i k (get_or vs 3 0) f t z w (omega arith) says r c)
      ∙ ap (λ (m : ℕ). good_row m (set vs k w)) q

  more-complete : (n : ℕ) (a y : List ℕ) → k < 5 → FieldText f a
      → row_from (suc n) k i vs p (a ++ comma ∷ y) ≡ row_from n (suc k) i (set vs k w) (p + (length a + 1)) y
  more-complete n a y l r =
      let c : Closes (eqb k 5) (comma ∷ y) = subst (λ (b : Bool). Closes b (comma ∷ y)) (sym (ne_eqb k 5 (λ e. omega arith))) (closes-comma y) in
      let t = told-complete i k (get_or vs 3 0) f a (comma ∷ y) w (omega arith) says r c ∙ ap (λ (m : ℕ). told_as w (length a + m)) (comma-size y) in
      row_step n k i vs p (a ++ comma ∷ y) w (length a + 1) t ∙ ap (row_from n (suc k) i (set vs k w) (p + (length a + 1))) (drop-comma a y)

pub row-complete : (k i : ℕ) (vs : List ℕ) (p : ℕ) (fs : List (List ℕ)) (ws : List ℕ) (t z : List ℕ) → k + length fs ≡ 6 → SaysAll i k vs fs ws
    → RowText fs t → EndsRow z → row_from (length fs) k i vs p (t ++ z) ≡ good_row (p + length t + end_size (ending z)) (put_all vs k ws)
unfolding SaysAll RowText
row-complete k i vs p [] ws t z e s r x = absurd r
row-complete k i vs p (f ∷ fs) [] t z e s r x = absurd s
row-complete k i vs p (f ∷ []) (w ∷ []) t z e s r x = last-complete k i vs p f w s.0 t z (omega arith) r x
row-complete k i vs p (f ∷ []) (w ∷ v ∷ ws) t z e s r x = absurd s.1
row-complete k i vs p (f ∷ g ∷ fs) (w ∷ ws) t z e s r x =
    let a = r.0 in
    let b = r.1 in
    let q : t ++ z ≡ a ++ comma ∷ (b ++ z) = ap (λ (y : List ℕ). y ++ z) r.2 ∙ append_assoc a (comma ∷ b) z in
    let m : p + (length a + 1) + length b + end_size (ending z) ≡ p + length t + end_size (ending z) =
    omega (arith, ap length r.2, length-append a (comma ∷ b)) in
    ap (row_from (length (f ∷ g ∷ fs)) k i vs p) q
    ∙ more-complete k i vs p f w s.0 (length (g ∷ fs)) a (b ++ z) (omega arith) r.3
    ∙ row-complete (suc k) i (set vs k w) (p + (length a + 1)) (g ∷ fs) ws b z (omega arith) s.1 r.4 x
    ∙ ap (λ (n : ℕ). good_row n (put_all (set vs k w) (suc k) ws)) m

-- ---- a good row

pub record RowIs (n k i : ℕ) (vs : List ℕ) (p : ℕ) (s : List ℕ) : Type 0 where
  pub fs : List (List ℕ)
  pub ws : List ℕ
  pub t : List ℕ
  pub z : List ℕ
  pub is : s ≡ t ++ z
  pub row : RowText fs t
  pub count : length fs ≡ n
  pub says : SaysAll i k vs fs ws
  pub ends : EndsRow z
  pub good : row_from n k i vs p s ≡ good_row (p + length t + end_size (ending z)) (put_all vs k ws)

not-comma : (z : List ℕ) (k : FieldEnd) → ending z ≡ Some k → by_comma k ≡ false → EndsRow z
not-comma z Comma e h = absurd (false≢true (sym h))
not-comma z Line e h = inr (drop 2 z, ends-row z e)
not-comma z File e h = inl (ends-file z e)

closed-row : (z : List ℕ) → Closes true z → EndsRow z
closed-row z c = not-comma z c.ends c.is c.fits

join-row : (f : List ℕ) (fs : List (List ℕ)) (a b : List ℕ) → 1 ≤ length fs → FieldText f a → RowText fs b → RowText (f ∷ fs) (a ++ comma ∷ b)
unfolding RowText
join-row f [] a b l x r = absurd r
join-row f (g ∷ fs) a b l x r = (a, b, refl, x, r)

module _ (k i : ℕ) (vs : List ℕ) (p : ℕ) (s : List ℕ) (l : k < 6) where
  last-sound : k ≡ 5 → Good (field_told i k (get_or vs 3 0) s) → RowIs 1 k i vs p s
  unfolding SaysAll row_from RowText
  last-sound e h =
      let d = told-sound i k (get_or vs 3 0) s l h in
      let q : p + (length d.t + end_size (ending d.z)) ≡ p + length d.t + end_size (ending d.z) = omega arith in
      record {
        fs = d.f ∷ [];
        ws = d.v ∷ [];
        t = d.t;
        z = d.z;
        is = d.is;
        row = d.text;
        count = refl;
        says = (d.says, tt);
        ends = closed-row d.z (subst (λ (b : Bool). Closes b d.z) (eq-eqb k 5 e) d.closes);
        good = row_step 0 k i vs p s d.v _ d.takes ∙ ap (λ (m : ℕ). good_row m (set vs k d.v)) q;
      }

  -- what is left behind a field that isn't the last
  record MoreIs : Type 0 where
    f : List ℕ
    v : ℕ
    a : List ℕ
    y : List ℕ
    is : s ≡ a ++ comma ∷ y
    text : FieldText f a
    says : sense i k (get_or vs 3 0) f ≡ Some v
    goes : (n : ℕ) → row_from (suc n) k i vs p s ≡ row_from n (suc k) i (set vs k v) (p + (length a + 1)) y

  more-sound : k < 5 → Good (field_told i k (get_or vs 3 0) s) → MoreIs
  more-sound m h =
      let d = told-sound i k (get_or vs 3 0) s l h in
      let c = closed-comma d.z (subst (λ (b : Bool). Closes b d.z) (ne_eqb k 5 (λ e. omega arith)) d.closes) in
      let q = d.is ∙ ap (λ (y : List ℕ). d.t ++ y) c in
      record {
        f = d.f;
        v = d.v;
        a = d.t;
        y = drop 1 d.z;
        is = q;
        text = d.text;
        says = d.says;
        goes = λ n. ap (row_from (suc n) k i vs p) q ∙ more-complete k i vs p d.f d.v d.says n d.t (drop 1 d.z) m d.text;
      }

pub row-sound : (n k i : ℕ) (vs : List ℕ) (p : ℕ) (s : List ℕ) → k + suc n ≡ 6 → Good (row_from (suc n) k i vs p s) → RowIs (suc n) k i vs p s
unfolding SaysAll
row-sound zero k i vs p s e h = last-sound k i vs p s (omega arith) (omega arith) (row-inv 0 k i vs p s h)
row-sound (suc n) k i vs p s e h =
    let d = more-sound k i vs p s (omega arith) (omega arith) (row-inv (suc n) k i vs p s h) in
    let g = d.goes (suc n) in
    let r = row-sound n (suc k) i (set vs k d.v) (p + (length d.a + 1)) d.y (omega arith) (ap is_ok (sym g) ∙ h) in
    let t = d.a ++ comma ∷ r.t in
    let m : p + (length d.a + 1) + length r.t + end_size (ending r.z) ≡ p + length t + end_size (ending r.z) =
    omega (arith, length-append d.a (comma ∷ r.t)) in
    record {
      fs = d.f ∷ r.fs;
      ws = d.v ∷ r.ws;
      t = t;
      z = r.z;
      is = d.is ∙ ap (λ (y : List ℕ). d.a ++ comma ∷ y) r.is ∙ sym (append_assoc d.a (comma ∷ r.t) r.z);
      row = join-row d.f r.fs d.a r.t (omega (arith, r.count)) d.text r.row;
      count = ap suc r.count;
      says = (d.says, r.says);
      ends = r.ends;
      good = g ∙ r.good ∙ ap (λ (j : ℕ). good_row j (put_all (set vs k d.v) (suc k) r.ws)) m;
    }
