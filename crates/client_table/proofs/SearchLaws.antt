-- Laws of the search by halves, on any form of row.
--     half-less              the half is shorter, and stays inside
--     seek-turn, seek-end    a turn of the search, and its end
--     seek-above             the place is not below the one that the search starts from
--     there-inside           a client that is there stands at a place of the table
-- Assumes nothing.
use mathlib.Core.Path.{◌≡◌, refl, sym, ap, ◌∙◌}
use mathlib.Core.Bool.{Bool, true, false, false≢true}
use mathlib.Core.List.{List}
use mathlib.Core.Logic.{⊎_elim}
use Prim.Native.Nat.{ℕ, zero, suc, ◌-◌, ◌≤◌, ◌<◌}
use native.Mathlib.Omega.{arith}
use lib.Dec.{leb, eqb}
use lib.ListN.{length, get_or-eq_default}
use borrow.Author.Tests.{lt-leb, le-leb, leb-false}
use Rattle.numbers.specs.Words.{when◌then◌else◌}
use Rattle.numbers.proofs.WordLaws.{split, and_left}
use Rattle.numbers.proofs.NumberLaws.{le-or-lt}
use Rattle.client_table.specs.declared.Span.{Span}
use Rattle.client_table.specs.declared.Goal.{Goal}
use Rattle.client_table.specs.Search.{span, mid_of, halved, is_before}
use Rattle.client_table.specs.Rows.{seek_from, seek, spot_of, is_there}
use Rattle.client_table.specs.Shape.{Shape, row_at}

pub half-less : (s : Span) (up : Bool) → s.lo < s.hi
    → ((halved s up).hi - (halved s up).lo < s.hi - s.lo) × ((halved s up).hi ≤ s.hi) × (s.lo ≤ (halved s up).lo)
unfolding halved when◌then◌else◌
half-less s true h = (omega arith, omega arith, omega arith)
half-less s false h = (omega arith, omega arith, omega arith)

module _ {R : Type 0} (h : Shape R) where
  -- the answer is that of the half that is left, with less fuel
  pub seek-turn : (f : ℕ) (s : Span) (g : Goal) (xs : List R) (x : R) (up : Bool) → s.lo < s.hi → s.hi - s.lo ≤ f
      → x ≡ row_at h xs (mid_of s) → up ≡ is_before (h.used x) (h.client x) g
      → (k : ℕ) × ((halved s up).hi - (halved s up).lo ≤ k) × (seek_from h f s g xs ≡ seek_from h k (halved s up) g xs)
  unfolding seek_from when◌then◌else◌
  seek-turn zero s g xs x up l b p q = absurd (omega arith)
  seek-turn (suc f) s g xs x up l b p q = (f, omega (arith, (half-less s up l).0), rw (lt-leb s.hi s.lo l, q, p))

  pub seek-end : (f : ℕ) (s : Span) (g : Goal) (xs : List R) → s.hi ≤ s.lo → seek_from h f s g xs ≡ s.lo
  unfolding seek_from when◌then◌else◌
  seek-end zero s g xs l = refl
  seek-end (suc f) s g xs l = rw (le-leb s.hi s.lo l)

  from-above : (f : ℕ) (s : Span) (g : Goal) (xs : List R) → s.lo ≤ seek_from h f s g xs
  unfolding seek_from
  from-above zero s g xs = omega arith
  from-above (suc f) s g xs =
      let up = is_before (h.used (row_at h xs (mid_of s))) (h.client (row_at h xs (mid_of s))) g in
      split (λ (z : ℕ). s.lo ≤ z) (leb s.hi s.lo) s.lo (seek_from h f (halved s up) g xs) (λ e. omega arith)
      (λ e. omega (arith, (half-less s up (leb-false s.hi s.lo e)).2, from-above f (halved s up) g xs))

  pub seek-above : (a : ℕ) (g : Goal) (xs : List R) → a ≤ seek h a g xs
  unfolding seek
  seek-above a g xs = from-above (length xs) (span a (length xs)) g xs

  pub there-inside : (xs : List R) (c : ℕ) → h.used h.blank ≡ false → is_there h xs c ≡ true → spot_of h xs c < length xs
  unfolding is_there
  there-inside xs c u t =
      ⊎_elim (λ (l : length xs ≤ spot_of h xs c). absurd (false≢true (
      sym u ∙ ap (λ (x : R). h.used x) (sym (get_or-eq_default xs h.blank {n = spot_of h xs c} l))
      ∙ and_left (h.used (row_at h xs (spot_of h xs c))) (eqb (h.client (row_at h xs (spot_of h xs c))) c) t))) (λ l. l)
      (le-or-lt (length xs) (spot_of h xs c))
