-- For readers: how far a field and what follows it is kept, from how far the field alone is kept.
--     reach-free, reach-free-short                          n free bytes that are there, or aren't
--     reach-number                                          a number within its bounds, or where it leaves them
--     free-field, join-field, number-field, no_field        fields of n bytes, whatever follows them: `Field`
--     past-field, short-field, past-number, short-number    the same by places: a reader from place a on answers the place where it stopped
--     place-le                                              which is no further than the end
--     number-next, number-none                              a number byte by byte
--     byte-none, byte-wrong, byte-there                     a byte that isn't there, may not come, or may
-- Assumes nothing.
use mathlib.Core.Path.{◌≡◌, refl, sym, ap, ◌∙◌}
use mathlib.Core.Bool.{Bool, true, false}
use mathlib.Core.List.{List, [], ◌∷◌}
use mathlib.Core.Logic.{⊎_elim}
use Prim.Native.Nat.{ℕ, zero, suc, ◌+◌, ◌-◌, ◌*◌, ◌/◌, ◌^◌, ◌≤◌, ◌<◌}
use native.Mathlib.Omega.{arith}
use lib.ListN.{length, get_or, take, drop, length-drop, drop_of_length-le}
use lib.Seq.{drop-drop, drop-cons}
use Rattle.numbers.specs.Words.{when◌then◌else◌}
use Rattle.numbers.specs.Numbers.{be_from, be, num, within}
use Rattle.numbers.proofs.WordLaws.{split, if-true, if-false}
use Rattle.numbers.proofs.NumberLaws.{le-or-lt, eq-or-not, num-byte}
use Rattle.offsets.specs.Rules.{Rule, end, byte, reach, free, between, number_reach}
use Rattle.offsets.proofs.RuleLaws.{reach-le}

pub reach-free : (n : ℕ) (r : Rule) (s : List ℕ) → n ≤ length s → reach (free n r) s ≡ n + reach r (drop n s)
unfolding reach free when◌then◌else◌
reach-free zero r s h = omega arith
reach-free (suc n) r [] h = absurd (omega arith)
reach-free (suc n) r (b ∷ s) h = let e = reach-free n r s (omega arith) in omega (arith, e)

pub reach-free-short : (n : ℕ) (r : Rule) (s : List ℕ) → length s < n → reach (free n r) s ≡ length s
unfolding reach free when◌then◌else◌
reach-free-short zero r s h = absurd (omega arith)
reach-free-short (suc n) r [] h = refl
reach-free-short (suc n) r (b ∷ s) h = ap suc (reach-free-short n r s (omega arith))

pub reach-number : (n x low high : ℕ) (next : ℕ → Rule) (s : List ℕ)
    → ((number_reach n x low high s ≡ n) → reach (between n x low high next) s ≡ n + reach (next (be_from x (take n s))) (drop n s))
    × ((number_reach n x low high s < n) → reach (between n x low high next) s ≡ number_reach n x low high s)
unfolding reach between number_reach when◌then◌else◌
reach-number zero x low high next s = (λ e. omega arith, λ l. absurd (omega arith))
reach-number (suc n) x low high next [] = (λ e. absurd (omega arith), λ l. refl)
reach-number (suc n) x low high next (b ∷ s) =
    let y = x * 256 + b in
    let ih = reach-number n y low high next s in
    let k = reach (between n y low high (λ v. end)) s in
    let w = reach (between n y low high next) s in
    let z = reach (next (be_from y (take n s))) (drop n s) in
    by-test (within (low / 256 ^ n) (high / 256 ^ n) y) k w z n ih.0 ih.1
  where
    by-test : (t : Bool) (k w z n : ℕ) → (k ≡ n → w ≡ n + z) → (k < n → w ≡ k)
        → (((when t then suc k else 0) ≡ suc n) → (when t then suc w else 0) ≡ suc n + z) × (((when t then suc k else 0) < suc n) → (when t then suc w else 0) ≡ (when t then suc k else 0))
    by-test true k w z n f g = (λ e. let p = f (omega (arith, e)) in omega (arith, p), λ l. let p = g (omega (arith, l)) in omega (arith, p))
    by-test false k w z n f g = (λ e. absurd (omega (arith, e)), λ l. refl)

-- no more bytes are kept than the number has
pub number-le : (n x low high : ℕ) (s : List ℕ) → number_reach n x low high s ≤ n
unfolding number_reach reach between when◌then◌else◌
number-le zero x low high s = omega arith
number-le (suc n) x low high [] = omega arith
number-le (suc n) x low high (b ∷ s) =
    split (λ (p : ℕ). p ≤ suc n) (within (low / 256 ^ n) (high / 256 ^ n) (x * 256 + b)) (suc (reach (between n (x * 256 + b) low high (λ v. end)) s)) 0
    (λ _. omega (arith, number-le n (x * 256 + b) low high s)) (λ _. omega arith)

-- ---- a field of n bytes

-- Whatever follows it: all its bytes are kept, and then what follows is asked; or it breaks at the same place.
pub record Field (n : ℕ) (f : Rule → Rule) : Type 0 where
  pub most : (s : List ℕ) → reach (f end) s ≤ n
  pub past : (r : Rule) (s : List ℕ) → reach (f end) s ≡ n → reach (f r) s ≡ n + reach r (drop n s)
  pub short : (r : Rule) (s : List ℕ) → reach (f end) s < n → reach (f r) s ≡ reach (f end) s

below : {x y : ℕ} → x ≤ y → (x ≡ y → ⊥) → x < y
below {x} {y} l d = ⊎_elim (λ g. absurd (d (omega arith))) (λ g. g) (le-or-lt y x)

pub free-field : (n : ℕ) → Field n (free n)
unfolding reach
free-field n =
    record {
      most = λ s. ⊎_elim (λ h. omega (arith, reach-free n end s h)) (λ h. omega (arith, reach-free-short n end s h)) (le-or-lt n (length s));
      past = λ r s e. ⊎_elim (λ h. reach-free n r s h) (λ h. absurd (omega (arith, reach-free-short n end s h, e))) (le-or-lt n (length s));
      short = λ r s e.
          ⊎_elim (λ h. absurd (omega (arith, reach-free n end s h, e))) (λ h. reach-free-short n r s h ∙ sym (reach-free-short n end s h)) (le-or-lt n (length s));
    }

-- one field after the other
pub join-field : {n m : ℕ} {f g : Rule → Rule} → Field n f → Field m g → Field (n + m) (λ r. f (g r))
join-field {n} {m} {f} {g} x y =
    record {
      most = λ s. by s (λ h. omega (arith, x.past (g end) s h, y.most (drop n s))) (λ h. omega (arith, x.short (g end) s h));
      past = λ r s e.
          by s
          (λ h.
          let a = x.past (g end) s h in
          let b = x.past (g r) s h in
          let d = y.past r (drop n s) (omega (arith, a, e)) in
          let w : reach r (drop m (drop n s)) ≡ reach r (drop (n + m) s) = rw drop-drop in
          omega (arith, b, d, w))
          (λ h. absurd (omega (arith, x.short (g end) s h, e)));
      short = λ r s e.
          by s
          (λ h.
          let a = x.past (g end) s h in
          let b = x.past (g r) s h in
          let d = y.short r (drop n s) (omega (arith, a, e)) in
          omega (arith, a, b, d))
          (λ h. x.short (g r) s h ∙ sym (x.short (g end) s h));
    }
  where
    by : {P : Type 0} (s : List ℕ) → (reach (f end) s ≡ n → P) → (reach (f end) s < n → P) → P
    by s p q = ⊎_elim p (λ d. q (below (x.most s) d)) (eq-or-not (reach (f end) s) n)

-- a number, and a field that depends on it
pub number-field : (n low high : ℕ) {m : ℕ} {g : ℕ → Rule → Rule} → ((v : ℕ) → Field m (g v))
    → Field (n + m) (λ r. between n 0 low high (λ v. g v r))
number-field n low high {m} {g} y =
    record {
      most = λ s. by s (λ h. omega (arith, goes end s h, (y (v s)).most (drop n s))) (λ h. omega (arith, stops end s h));
      past = λ r s e.
          by s
          (λ h.
          let a = goes end s h in
          let b = goes r s h in
          let d = (y (v s)).past r (drop n s) (omega (arith, a, e)) in
          let w : reach r (drop m (drop n s)) ≡ reach r (drop (n + m) s) = rw drop-drop in
          omega (arith, b, d, w))
          (λ h. absurd (omega (arith, stops end s h, e)));
      short = λ r s e.
          by s
          (λ h.
          let a = goes end s h in
          let b = goes r s h in
          let d = (y (v s)).short r (drop n s) (omega (arith, a, e)) in
          omega (arith, a, b, d))
          (λ h. stops r s h ∙ sym (stops end s h));
    }
  where
    v : List ℕ → ℕ
    v s = be (take n s)

    goes : (r : Rule) (s : List ℕ) → number_reach n 0 low high s ≡ n → reach (between n 0 low high (λ v. g v r)) s ≡ n + reach (g (v s) r) (drop n s)
    goes r s h = (reach-number n 0 low high (λ v. g v r) s).0 h

    stops : (r : Rule) (s : List ℕ) → number_reach n 0 low high s < n → reach (between n 0 low high (λ v. g v r)) s ≡ number_reach n 0 low high s
    stops r s h = (reach-number n 0 low high (λ v. g v r) s).1 h

    by : {P : Type 0} (s : List ℕ) → (number_reach n 0 low high s ≡ n → P) → (number_reach n 0 low high s < n → P) → P
    by s p q = ⊎_elim p (λ d. q (below (number-le n 0 low high s) d)) (eq-or-not (number_reach n 0 low high s) n)

pub no_field : Field 0 (λ r. r)
unfolding reach
no_field = record { most = λ s. omega arith; past = λ r s e. omega arith; short = λ r s e. absurd (omega arith) }

-- ---- by places: a reader from place a on stopped at p

-- which is no further than the end
pub place-le : (r : Rule) (a : ℕ) (s : List ℕ) → a ≤ length s → a + reach r (drop a s) ≤ length s
place-le r a s h = omega (arith, reach-le r (drop a s), length-drop a s)

module _ (a : ℕ) (s : List ℕ) (p : ℕ) where
  module _ {n : ℕ} {f : Rule → Rule} (field : Field n f) (r : Rule) (e : p ≡ a + reach (f end) (drop a s)) where
    pub past-field : n ≤ p - a → a + reach (f r) (drop a s) ≡ p + reach r (drop p s)
    past-field h =
        let k = field.most (drop a s) in
        let q : p ≡ a + n = omega (arith, h, e, k) in
        let g = field.past r (drop a s) (omega (arith, h, e, k)) in
        let w : reach r (drop n (drop a s)) ≡ reach r (drop (a + n) s) = rw drop-drop in
        rw q (omega (arith, g, w))

    pub short-field : p - a < n → a + reach (f r) (drop a s) ≡ p
    short-field h = let g = field.short r (drop a s) (omega (arith, h, e)) in omega (arith, g, e)

  module _ (n low high : ℕ) (next : ℕ → Rule) (e : p ≡ a + number_reach n 0 low high (drop a s)) where
    pub past-number : n ≤ p - a → a + reach (between n 0 low high next) (drop a s) ≡ p + reach (next (num n a s)) (drop p s)
    unfolding num
    past-number h =
        let k = number-le n 0 low high (drop a s) in
        let q : p ≡ a + n = omega (arith, h, e, k) in
        let g = (reach-number n 0 low high next (drop a s)).0 (omega (arith, h, e, k)) in
        let w : reach (next (be (take n (drop a s)))) (drop n (drop a s)) ≡ reach (next (be (take n (drop a s)))) (drop (a + n) s) = rw drop-drop in
        rw q (omega (arith, g, w))

    pub short-number : p - a < n → a + reach (between n 0 low high next) (drop a s) ≡ p
    short-number h = let g = (reach-number n 0 low high next (drop a s)).1 (omega (arith, h, e)) in omega (arith, g, e)

-- ---- byte by byte

-- a number's next byte, at place a
pub number-next : (m x low high a : ℕ) (s : List ℕ) → a < length s
    → number_reach (suc m) x low high (drop a s)
    ≡ (when within (low / 256 ^ m) (high / 256 ^ m) (x * 256 + get_or s a 0) then suc (number_reach m (x * 256 + get_or s a 0) low high (drop (suc a) s)) else 0)
unfolding number_reach reach between
number-next m x low high a s h = rw (drop-cons s a 0 h)

-- there is none
pub number-none : (n x low high a : ℕ) (s : List ℕ) → length s ≤ a → number_reach n x low high (drop a s) ≡ 0
unfolding number_reach reach between
number-none zero x low high a s h = refl
number-none (suc n) x low high a s h = rw (drop_of_length-le s {i = a} h)

-- ---- one byte, at place a

module _ (ok : ℕ → Bool) (next : ℕ → Rule) (a : ℕ) (s : List ℕ) where
  pub byte-none : length s ≤ a → a + reach (byte ok next) (drop a s) ≡ a
  unfolding reach
  byte-none h = let e : reach (byte ok next) (drop a s) ≡ 0 = rw (drop_of_length-le s {i = a} h) in omega (arith, e)

  module _ (h : a < length s) where
    is : reach (byte ok next) (drop a s) ≡ (when ok (num 1 a s) then suc (reach (next (num 1 a s)) (drop (suc a) s)) else 0)
    unfolding reach
    is = rw (drop-cons s a 0 h, num-byte a s h)

    pub byte-wrong : ok (num 1 a s) ≡ false → a + reach (byte ok next) (drop a s) ≡ a
    byte-wrong f = let e = is ∙ if-false (ok (num 1 a s)) _ _ f in omega (arith, e)

    pub byte-there : ok (num 1 a s) ≡ true → a + reach (byte ok next) (drop a s) ≡ suc a + reach (next (num 1 a s)) (drop (suc a) s)
    byte-there t = let e = is ∙ if-true (ok (num 1 a s)) (suc (reach (next (num 1 a s)) (drop (suc a) s))) 0 t in omega (arith, e)
