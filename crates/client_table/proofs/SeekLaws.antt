-- The search by halves, on rows of which a front stands before the goal and the rest doesn't: it finds where the front ends. Assumes nothing.
use mathlib.Core.Path.{◌≡◌}
use mathlib.Core.Bool.{Bool, true, false, false≢true}
use mathlib.Core.List.{List}
use Prim.Native.Nat.{ℕ, zero, suc, ◌-◌, ◌≤◌, ◌<◌}
use native.Mathlib.Omega.{arith}
use lib.ListN.{length}
use borrow.Author.Tests.{leb-true, leb-false}
use Rattle.numbers.proofs.WordLaws.{split}
use Rattle.client_table.specs.declared.Span.{Span}
use Rattle.client_table.specs.declared.Goal.{Goal}
use Rattle.client_table.specs.Search.{span, mid_of, halved, is_before}
use Rattle.client_table.specs.Rows.{seek_from, seek}
use Rattle.client_table.specs.Shape.{Shape, row_at}

module _ {R : Type 0} (h : Shape R) (g : Goal) (xs : List R) where
  -- the row at a place stands before the goal
  abbrev pub before_at : ℕ → Bool
  before_at j = is_before (h.used (row_at h xs j)) (h.client (row_at h xs j)) g

  module _ (p : ℕ) (low : (j : ℕ) → j < p → before_at j ≡ true) (high : (j : ℕ) → p ≤ j → before_at j ≡ false) where
    apart : (j : ℕ) → before_at j ≡ true → p ≤ j → ⊥
    apart j t l = let f : before_at j ≡ false = high j l in false≢true (cc)

    near : (j : ℕ) → before_at j ≡ false → j < p → ⊥
    near j f l = let t : before_at j ≡ true = low j l in false≢true (cc)

    from_is : (f : ℕ) (s : Span) → s.hi - s.lo ≤ f → s.lo ≤ p → p ≤ s.hi → seek_from h f s g xs ≡ p
    unfolding seek_from halved
    from_is zero s l a b = omega arith
    from_is (suc f) s l a b =
        split (λ (k : ℕ). k ≡ p) _ _ _ (λ e. let le : s.hi ≤ s.lo = leb-true _ _ e in omega arith) λ e.
        let lt : s.lo < s.hi = leb-false _ _ e in
        split (λ (t : Span). seek_from h f t g xs ≡ p) _ _ _
        (λ t. let n : p ≤ mid_of s → ⊥ = apart (mid_of s) t in from_is f _ (omega arith) (omega (arith, n)) b)
        (λ t. let n : mid_of s < p → ⊥ = near (mid_of s) t in from_is f _ (omega arith) a (omega (arith, n)))

    pub seek_is : (a : ℕ) → a ≤ p → p ≤ length xs → seek h a g xs ≡ p
    unfolding seek
    seek_is a l b = from_is (length xs) (span a (length xs)) (omega arith) l b
