-- A row stored.
--     stored-length, stored-behind     as many rows as before, and those behind it are as they were
--     stored-moved                     the rows from a place on copied one place up, and the row set there
-- Assumes nothing.
use mathlib.Core.Path.{◌≡◌, sym, ap, ◌∙◌}
use mathlib.Core.List.{List, [], ◌∷◌, ◌++◌, append_assoc}
use Prim.Native.Nat.{ℕ, ◌+◌, ◌-◌, ◌≤◌, ◌<◌}
use native.Mathlib.Numerals.{add-one}
use native.Mathlib.Omega.{arith}
use lib.ListN.{length, get_or, set, take, drop, length-append, length-take, length-drop}
use lib.Seq.{get_or-append-add, get_or-drop, length-take-le, paste, set_at, take-suc}
use Rattle.client_table.specs.Rows.{stored}
use Rattle.client_table.specs.Shape.{Shape, row_at}

module _ {R : Type 0} (h : Shape R) (at to : ℕ) (r : R) (xs : List R) (le : at ≤ to) (lt : to < length xs) where
  abbrev front : List R
  front = take at xs ++ r ∷ take (to - at) (drop at xs)

  front_length : length front ≡ to + 1
  front_length = simp (length-append, length-take, length-drop) (omega arith)

  pub stored-length : length (stored h at to r xs) ≡ length xs
  unfolding stored
  stored-length = simp (length-append, length-take, length-drop) (omega arith)

  pub stored-behind : (i : ℕ) → to < i → row_at h (stored h at to r xs) i ≡ row_at h xs i
  unfolding stored
  stored-behind i l =
      ap (λ (k : ℕ). get_or (front ++ drop (to + 1) xs) k h.blank) (omega (arith, front_length))
      ∙ get_or-append-add front (drop (to + 1) xs) (i - (to + 1)) h.blank
      ∙ get_or-drop (to + 1) xs (i - (to + 1)) h.blank
      ∙ ap (λ (k : ℕ). get_or xs k h.blank) (omega arith)

-- the rows from the place on up to `to` copied one place up, and the row set
pub stored-moved : {R : Type 0} (h : Shape R) (at to : ℕ) (r d : R) (xs : List R) → at ≤ to → to < length xs
    → set (paste xs (at + 1) (drop at xs) (to - at)) at r ≡ stored h at to r xs
unfolding stored
stored-moved {R} h at to r d xs le lt =
    let below = take at xs in
    let mid = take (to - at) (drop at xs) in
    let rest = drop (to + 1) xs in
    let y = get_or xs at d in
    let e : at + 1 + (to - at) ≡ to + 1 = omega arith in
    let t : take (at + 1) xs ≡ below ++ y ∷ [] = rw add-one (take-suc xs at d (omega arith)) in
    let w : length below ≡ at = length-take-le at xs (omega arith) in
    ap (λ (k : ℕ). set (take (at + 1) xs ++ mid ++ drop k xs) at r) e
    ∙ ap (λ (f : List R). set (f ++ mid ++ rest) at r) t
    ∙ ap (λ (z : List R). set z at r) (append_assoc (below ++ y ∷ []) mid rest ∙ append_assoc below (y ∷ []) (mid ++ rest))
    ∙ set_at below y (mid ++ rest) r at w
    ∙ sym (append_assoc below (r ∷ mid) rest)
