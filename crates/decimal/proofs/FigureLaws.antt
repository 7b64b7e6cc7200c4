-- A number's figures, one after the other.
--     decimal-one, decimal-more   the figures of a number below 10, and of one of two figures or more: those of n / 10, and the last
--     by_size, by-tenths          these two cases; and induction by them
--     length-one, length_more     how many figures these are
-- Assumes nothing.
use mathlib.Core.Path.{◌≡◌, ap, ◌∙◌}
use mathlib.Core.List.{List, [], ◌∷◌, ◌++◌}
use mathlib.Core.Logic.{◌⊎◌, inl, inr}
use Prim.Native.Nat.{ℕ, zero, suc, ◌+◌, ◌/◌, ◌%◌, ◌≤◌, ◌<◌}
use native.Mathlib.Omega.{arith}
use borrow.Author.Tests.{lt-ltb, le-ltb}
use lib.ListN.{length, length-append}
use Rattle.numbers.specs.Words.{when◌then◌else◌}
use Rattle.numbers.proofs.NumberLaws.{le-or-lt}
use Rattle.decimal.specs.Decimal.{figure, figures, decimal}

figures-one : (k n : ℕ) → n < 10 → figures (suc k) n ≡ figure n ∷ []
unfolding figures when◌then◌else◌
figures-one k n h = rw (lt-ltb n 10 h)

figures-more : (k n : ℕ) → 10 ≤ n → figures (suc k) n ≡ figures k (n / 10) ++ figure (n % 10) ∷ []
unfolding figures when◌then◌else◌
figures-more k n h = rw (le-ltb n 10 h)

-- a number of two figures or more, or of one
pub by_size : {P : Type 0} (n : ℕ) → (10 ≤ n → P) → (n < 10 → P) → P
by_size {P} n more one = go (le-or-lt 10 n)
  where
    go : (10 ≤ n) ⊎ (n < 10) → P
    go (inl l) = more l
    go (inr l) = one l

-- how many figures there may be does not matter, where they are enough
figures-same : (k j n : ℕ) → n < k → n < j → figures k n ≡ figures j n
figures-same zero j n h g = absurd (omega arith)
figures-same (suc k) zero n h g = absurd (omega arith)
figures-same (suc k) (suc j) n h g =
    by_size n
    (λ l. rw (figures-more k n l, figures-more j n l, figures-same k j (n / 10) (omega arith) (omega arith)))
    (λ l. rw (figures-one k n l, figures-one j n l))

pub decimal-one : (n : ℕ) → n < 10 → decimal n ≡ figure n ∷ []
unfolding decimal
decimal-one n h = figures-one n n h

pub decimal-more : (n : ℕ) → 10 ≤ n → decimal n ≡ decimal (n / 10) ++ figure (n % 10) ∷ []
unfolding decimal
decimal-more n h =
    figures-more n n h
    ∙ ap (λ (s : List ℕ). s ++ figure (n % 10) ∷ []) (figures-same n (suc (n / 10)) (n / 10) (omega arith) (omega arith))

-- induction over the figures
module _ (P : ℕ → Type 0) (one : (n : ℕ) → n < 10 → P n) (more : (n : ℕ) → 10 ≤ n → P (n / 10) → P n) where
  tenths-by : (k n : ℕ) → n < k → P n
  tenths-by zero n h = absurd (omega arith)
  tenths-by (suc k) n h = by_size n (λ l. more n l (tenths-by k (n / 10) (omega arith))) (one n)

  pub by-tenths : (n : ℕ) → P n
  by-tenths n = tenths-by (suc n) n (omega arith)

pub length-one : (n : ℕ) → n < 10 → length (decimal n) ≡ 1
length-one n h = rw (decimal-one n h)

pub length_more : (n : ℕ) → 10 ≤ n → length (decimal n) ≡ length (decimal (n / 10)) + 1
length_more n h = rw (decimal-more n h) (length-append (decimal (n / 10)) (figure (n % 10) ∷ []))
