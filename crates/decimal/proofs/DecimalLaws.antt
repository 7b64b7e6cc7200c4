-- Laws of numbers in decimal.
--     decimal-value, value-decimal    the figures of a number stand for it; the figures of the number that figures stand for
--     decimal-figures, decimal-there, decimal-leading, decimal-is    a number's figures are figures, one at least, with no 0 in front of others
--     decimal-short, decimal-long     a number below 2 ^ 64 has at most 20 figures; how many one has by the power of ten that it reaches
--     number-of-decimal               the text of a number not above the bound says that number
--     number-there                    a number that a text says has that text, and is not above the bound
-- Assumes nothing.
use mathlib.Core.Path.{◌≡◌, refl, sym, ap, ◌∙◌}
use mathlib.Core.Bool.{true, false, not}
use mathlib.Core.List.{List, [], ◌∷◌, ◌++◌, append-nil, append_assoc}
use Prim.Native.Nat.{ℕ, zero, suc, ◌+◌, ◌-◌, ◌*◌, ◌/◌, ◌%◌, ◌^◌, ◌≤◌, ◌<◌}
use native.Mathlib.Omega.{arith}
use native.Mathlib.Nat.{pow-succ'}
use borrow.Author.Tests.{leb-true, le-leb, ne_eqb, eqb-false, not-true}
use lib.Dec.{leb}
use lib.ListN.{length, get_or, get_or-append}
use Rattle.std.specs.Prelude.{Option, Some, None}
use Rattle.std.proofs.lemmas.Option.{none-some, cond_some}
use Rattle.numbers.specs.Words.{when◌then◌else◌, ◌and◌}
use Rattle.numbers.specs.Numbers.{within}
use Rattle.numbers.proofs.WordLaws.{split, and_both}
use Rattle.numbers.proofs.NumberLaws.{within_both, both-within}
use Rattle.decimal.specs.Decimal.{figure, decimal, value_from, all_figures, leading_zero, is_decimal, number_in}
use Rattle.decimal.proofs.FigureLaws.{by_size, decimal-one, decimal-more, by-tenths, length-one, length_more}

-- ---- the value

pub value-append : (x : ℕ) (s t : List ℕ) → value_from x (s ++ t) ≡ value_from (value_from x s) t
unfolding value_from
value-append x [] t = refl
value-append x (b ∷ s) t = value-append (10 * x + (b - 48)) s t

pub decimal-value : (n : ℕ) → value_from 0 (decimal n) ≡ n
unfolding value_from
decimal-value = by-tenths (λ (n : ℕ). value_from 0 (decimal n) ≡ n) one more
  where
    one : (n : ℕ) → n < 10 → value_from 0 (decimal n) ≡ n
    one n h = rw (decimal-one n h) (omega arith)

    more : (n : ℕ) → 10 ≤ n → value_from 0 (decimal (n / 10)) ≡ n / 10 → value_from 0 (decimal n) ≡ n
    more n h p = rw (decimal-more n h, value-append 0 (decimal (n / 10)) (figure (n % 10) ∷ []), p) (omega arith)

-- ---- the figures

pub figures-append : (s t : List ℕ) → all_figures s ≡ true → all_figures t ≡ true → all_figures (s ++ t) ≡ true
unfolding all_figures ◌and◌
figures-append [] t p q = q
figures-append (b ∷ s) t p q =
    let e = and_both (within 48 57 b) (all_figures s) p in
    rw e.0 (figures-append s t e.1 q)

one-figure : (d : ℕ) → d < 10 → all_figures (figure d ∷ []) ≡ true
unfolding all_figures ◌and◌
one-figure d h = rw (both-within 48 57 (48 + d) (omega arith) (omega arith))

pub decimal-figures : (n : ℕ) → all_figures (decimal n) ≡ true
decimal-figures = by-tenths (λ (n : ℕ). all_figures (decimal n) ≡ true) one more
  where
    one : (n : ℕ) → n < 10 → all_figures (decimal n) ≡ true
    one n h = rw (decimal-one n h) (one-figure n h)

    more : (n : ℕ) → 10 ≤ n → all_figures (decimal (n / 10)) ≡ true → all_figures (decimal n) ≡ true
    more n h p = rw (decimal-more n h) (figures-append (decimal (n / 10)) (figure (n % 10) ∷ []) p (one-figure (n % 10) (omega arith)))

-- ---- how many

pub decimal-there : (n : ℕ) → 1 ≤ length (decimal n)
decimal-there n = by_size n (λ l. omega (arith, length_more n l)) (λ l. omega (arith, length-one n l))

short-by : (k n : ℕ) → n < 10 ^ suc k → length (decimal n) ≤ suc k
short-by zero n h = omega (arith, length-one n h)
short-by (suc k) n h =
    let g : n < 10 * 10 ^ suc k = rw pow-succ' at h in
    by_size n (λ l. omega (arith, length_more n l, short-by k (n / 10) (omega arith))) (λ l. omega (arith, length-one n l))

pub decimal-short : (n : ℕ) → n < 2 ^ 64 → length (decimal n) ≤ 20
decimal-short n h = short-by 19 n (omega arith)

ten-some : (k : ℕ) → 1 ≤ 10 ^ k
ten-some zero = omega arith
ten-some (suc k) = rw pow-succ' (omega (arith, ten-some k))

long-by : (k n : ℕ) → 10 ^ k ≤ n → suc k ≤ length (decimal n)
long-by zero n h = decimal-there n
long-by (suc k) n h =
    let g : 10 * 10 ^ k ≤ n = rw pow-succ' at h in
    by_size n (λ l. omega (arith, length_more n l, long-by k (n / 10) (omega arith))) (λ l. absurd (omega (arith, ten-some k)))

-- by the power of ten that it reaches
pub decimal-long : (n k : ℕ) → 10 ^ k ≤ n → n < 10 * 10 ^ k → length (decimal n) ≡ k + 1
decimal-long n k h g = omega (arith, long-by k n h, short-by k n (rw pow-succ' g))

-- ---- no 0 in front

first : (n : ℕ) → 1 ≤ n → 49 ≤ get_or (decimal n) 0 0
first = by-tenths (λ (n : ℕ). 1 ≤ n → 49 ≤ get_or (decimal n) 0 0) one more
  where
    one : (n : ℕ) → n < 10 → 1 ≤ n → 49 ≤ get_or (decimal n) 0 0
    one n h g = rw (decimal-one n h) (omega arith)

    more : (n : ℕ) → 10 ≤ n → (1 ≤ n / 10 → 49 ≤ get_or (decimal (n / 10)) 0 0) → 1 ≤ n → 49 ≤ get_or (decimal n) 0 0
    more n h p g =
        rw (decimal-more n h, get_or-append (decimal (n / 10)) (figure (n % 10) ∷ []) 0 0 (decimal-there (n / 10))) (p (omega arith))

pub decimal-leading : (n : ℕ) → leading_zero (decimal n) ≡ false
unfolding leading_zero ◌and◌
decimal-leading n =
    by_size n
    (λ l.
    rw (le-leb 2 (length (decimal n)) (omega (arith, length_more n l, decimal-there (n / 10))))
    (ne_eqb (get_or (decimal n) 0 0) 48 (λ (e : get_or (decimal n) 0 0 ≡ 48). omega (arith, first n (omega arith)))))
    (λ l. rw (decimal-one n l))

pub decimal-is : (n : ℕ) → is_decimal (decimal n) ≡ true
unfolding is_decimal ◌and◌
decimal-is n = rw (le-leb 1 (length (decimal n)) (decimal-there n), decimal-leading n, decimal-figures n)

-- ---- the figures of the number that figures stand for

-- one figure more behind a number that is not 0
pub decimal-next : (x d : ℕ) → 1 ≤ x → d < 10 → decimal (10 * x + d) ≡ decimal x ++ figure d ∷ []
decimal-next x d h g =
    let q : (10 * x + d) / 10 ≡ x = omega arith in
    let r : (10 * x + d) % 10 ≡ d = omega arith in
    rw (decimal-more (10 * x + d) (omega arith), q, r)

-- what a figure is
figure-back : (b : ℕ) → within 48 57 b ≡ true → (figure (b - 48) ≡ b) × (b - 48 < 10)
figure-back b e =
    let p = within_both 48 57 b e in
    (omega arith, omega arith)

pub value-more : (x : ℕ) (s : List ℕ) → 1 ≤ x → all_figures s ≡ true → decimal (value_from x s) ≡ decimal x ++ s
unfolding value_from all_figures
value-more x [] h e = sym (append-nil (decimal x))
value-more x (b ∷ s) h e =
    let p = and_both (within 48 57 b) (all_figures s) e in
    let q = figure-back b p.0 in
    value-more (10 * x + (b - 48)) s (omega arith) p.1
    ∙ rw (decimal-next x (b - 48) h q.1, q.0) (append_assoc (decimal x) (b ∷ []) s)

-- what makes a text a number in decimal
pub is-parts : (s : List ℕ) → is_decimal s ≡ true → (1 ≤ length s) × (leading_zero s ≡ false) × (all_figures s ≡ true)
unfolding is_decimal
is-parts s e =
    let p = and_both (leb 1 (length s)) (not (leading_zero s) and all_figures s) e in
    let q = and_both (not (leading_zero s)) (all_figures s) p.1 in
    (leb-true 1 (length s) p.0, not-true (leading_zero s) q.0, q.1)

first-not : (b c : ℕ) (s : List ℕ) → leading_zero (b ∷ c ∷ s) ≡ false → b ≡ 48 → ⊥
unfolding leading_zero ◌and◌
first-not b c s e = eqb-false b 48 (rw (le-leb 2 (suc (suc (length s))) (omega arith)) at e)

pub value-decimal : (s : List ℕ) → is_decimal s ≡ true → decimal (value_from 0 s) ≡ s
unfolding value_from all_figures
value-decimal [] e = absurd (omega (arith, (is-parts [] e).0))
value-decimal (b ∷ []) e =
    let p = and_both (within 48 57 b) true (is-parts (b ∷ []) e).2 in
    let q = figure-back b p.0 in
    let z : 10 * 0 + (b - 48) ≡ b - 48 = omega arith in
    rw (z, decimal-one (b - 48) q.1, q.0)
value-decimal (b ∷ c ∷ s) e =
    let t = is-parts (b ∷ c ∷ s) e in
    let p = and_both (within 48 57 b) (all_figures (c ∷ s)) t.2 in
    let q = figure-back b p.0 in
    let n : b ≡ 48 → ⊥ = first-not b c s t.1 in
    let z : 10 * 0 + (b - 48) ≡ b - 48 = omega arith in
    rw z (value-more (b - 48) (c ∷ s) (omega (arith, n)) p.1 ∙ rw (decimal-one (b - 48) q.1, q.0))

-- ---- what a text says

pub number-of-decimal : (most n : ℕ) → n ≤ most → number_in most (decimal n) ≡ Some n
unfolding number_in when◌then◌else◌ ◌and◌
number-of-decimal most n h = rw (decimal-is n, decimal-value n, le-leb n most h)

pub number-there : (most n : ℕ) (s : List ℕ) → number_in most s ≡ Some n → (s ≡ decimal n) × (n ≤ most)
unfolding number_in
number-there most n s =
    split (λ (r : Option ℕ). r ≡ Some n → (s ≡ decimal n) × (n ≤ most)) (is_decimal s and leb (value_from 0 s) most)
    (Some (value_from 0 s)) None yes (λ e z. absurd (none-some n z))
  where
    yes : (is_decimal s and leb (value_from 0 s) most) ≡ true → Some (value_from 0 s) ≡ Some n → (s ≡ decimal n) × (n ≤ most)
    yes e z =
        let p = and_both (is_decimal s) (leb (value_from 0 s) most) e in
        let v : value_from 0 s ≡ n = (cond_some true (value_from 0 s) n z).1 in
        (sym (value-decimal s p.0) ∙ ap decimal v, omega (arith, leb-true (value_from 0 s) most p.1))
