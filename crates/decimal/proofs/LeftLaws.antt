-- Laws of a text that is read, figure by figure.
--     empty-none, leading-none    a text without bytes, or with a 0 in front of others, says no number
--     Left                        what the first i figures of a text, which stand for x, leave of it
--     left-none, left-more        none read; one more
--     low-none, high-none         a byte that is no figure
--     next-none                   a number that goes above the bound
--     left-all                    the whole text read
-- Assumes nothing.
use mathlib.Core.Path.{◌≡◌, refl, ap, ◌∙◌}
use mathlib.Core.Bool.{Bool, true, false, not}
use mathlib.Core.List.{List, [], ◌∷◌}
use Prim.Native.Nat.{ℕ, suc, ◌+◌, ◌-◌, ◌*◌, ◌≤◌, ◌<◌}
use native.Mathlib.Omega.{arith}
use native.Mathlib.Numerals.{add-one}
use borrow.Author.Tests.{le-leb, lt-leb}
use lib.Dec.{leb}
use lib.ListN.{length, get_or, drop}
use lib.Seq.{drop-cons, drop-length}
use Rattle.std.specs.Prelude.{Some, None}
use Rattle.std.specs.Bool.{then_some}
use Rattle.numbers.specs.Words.{when◌then◌else◌, ◌and◌}
use Rattle.numbers.specs.Numbers.{within}
use Rattle.numbers.proofs.WordLaws.{and-false}
use Rattle.numbers.proofs.NumberLaws.{both-within}
use Rattle.decimal.specs.Decimal.{value_from, all_figures, leading_zero, is_decimal, number_in}

-- ---- when a text says no number

pub empty-none : (most : ℕ) (s : List ℕ) → length s ≡ 0 → number_in most s ≡ None
unfolding number_in is_decimal when◌then◌else◌ ◌and◌
empty-none most s h = rw (lt-leb 1 (length s) (omega arith))

pub leading-none : (most : ℕ) (s : List ℕ) → leading_zero s ≡ true → number_in most s ≡ None
unfolding number_in is_decimal when◌then◌else◌ ◌and◌
leading-none most s h = rw (h, and-false (leb 1 (length s)) false refl)

byte-none : (most : ℕ) (s : List ℕ) → all_figures s ≡ false → number_in most s ≡ None
unfolding number_in is_decimal when◌then◌else◌ ◌and◌
byte-none most s h = rw (h, and-false (not (leading_zero s)) false refl, and-false (leb 1 (length s)) false refl)

above-none : (most : ℕ) (s : List ℕ) → most < value_from 0 s → number_in most s ≡ None
unfolding number_in when◌then◌else◌
above-none most s h = rw (lt-leb (value_from 0 s) most h, and-false (is_decimal s) false refl)

-- ---- what is left

pub record Left (s : List ℕ) (x i : ℕ) : Type 0 where
  pub within_text : i ≤ length s
  pub figures-left : all_figures s ≡ all_figures (drop i s)
  pub value-left : value_from 0 s ≡ value_from x (drop i s)

pub left-none : (s : List ℕ) → Left s 0 0
left-none s = record { within_text = omega arith; figures-left = refl; value-left = refl }

-- the bytes left, where one is
figures-next : (s : List ℕ) (i x : ℕ) → i < length s → Left s x i → all_figures s ≡ (within 48 57 (get_or s i 0) and all_figures (drop (suc i) s))
unfolding all_figures
figures-next s i x h l = l.figures-left ∙ rw (drop-cons s i 0 h)

value-next : (s : List ℕ) (i x : ℕ) → i < length s → Left s x i → value_from 0 s ≡ value_from (10 * x + (get_or s i 0 - 48)) (drop (suc i) s)
unfolding value_from
value-next s i x h l = l.value-left ∙ rw (drop-cons s i 0 h)

pub left-more : (s : List ℕ) (i x d y : ℕ) → i < length s → get_or s i 0 ≡ 48 + d → d ≤ 9 → y ≡ 10 * x + d → Left s x i → Left s y (i + 1)
unfolding ◌and◌
left-more s i x d y h f m e l =
    let v : 10 * x + (get_or s i 0 - 48) ≡ y = omega arith in
    record {
      within_text = omega arith;
      figures-left = rw (add-one) (figures-next s i x h l ∙ rw (both-within 48 57 (get_or s i 0) (omega arith) (omega arith)));
      value-left = rw (add-one) (value-next s i x h l ∙ ap (λ (z : ℕ). value_from z (drop (suc i) s)) v);
    }

pub low-none : (most : ℕ) (s : List ℕ) (i x : ℕ) → i < length s → get_or s i 0 < 48 → Left s x i → number_in most s ≡ None
unfolding within ◌and◌
low-none most s i x h g l = byte-none most s (figures-next s i x h l ∙ rw (lt-leb 48 (get_or s i 0) g))

pub high-none : (most : ℕ) (s : List ℕ) (i x : ℕ) → i < length s → 57 < get_or s i 0 → Left s x i → number_in most s ≡ None
unfolding within ◌and◌
high-none most s i x h g l = byte-none most s (figures-next s i x h l ∙ rw (lt-leb (get_or s i 0) 57 g, le-leb 48 (get_or s i 0) (omega arith)))

-- figures behind a number make none that is lower
value_grows : (x : ℕ) (s : List ℕ) → x ≤ value_from x s
unfolding value_from
value_grows x [] = omega arith
value_grows x (b ∷ s) = omega (arith, value_grows (10 * x + (b - 48)) s)

pub next-none : (most : ℕ) (s : List ℕ) (i x : ℕ) → i < length s → most < 10 * x + (get_or s i 0 - 48) → Left s x i → number_in most s ≡ None
next-none most s i x h g l =
    above-none most s (omega (arith, value-next s i x h l, value_grows (10 * x + (get_or s i 0 - 48)) (drop (suc i) s)))

-- the whole text read
chosen : (b : Bool) (x : ℕ) → then_some b x ≡ (when b then Some x else None)
unfolding when◌then◌else◌
chosen true x = refl
chosen false x = refl

pub left-all : (most : ℕ) (s : List ℕ) (i x : ℕ) → i ≡ length s → 1 ≤ length s → leading_zero s ≡ false → Left s x i
    → then_some (leb x most) x ≡ number_in most s
unfolding number_in is_decimal all_figures value_from ◌and◌
left-all most s i x e h z l =
    let d : drop i s ≡ [] = rw e (drop-length s) in
    let f : all_figures s ≡ true = l.figures-left ∙ rw d in
    let v : value_from 0 s ≡ x = l.value-left ∙ rw d in
    rw (le-leb 1 (length s) h, z, f, v) (chosen (leb x most) x)
