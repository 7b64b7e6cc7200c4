-- What a search finds of a client.
--     found-past, found-unused, found-other, found-his     the ways out of `find`
--     row-found, none-found                                what was found says where his row stands, or would go, and the row there
--     found-inside                                         a row that was found stands in the table
--     latest-found                                         what the core is told of him
-- Assumes nothing.
use mathlib.Core.Path.{◌≡◌, refl, sym, ap, ◌∙◌, subst}
use mathlib.Core.Bool.{Bool, true, false}
use mathlib.Core.List.{List}
use Prim.Native.Nat.{ℕ, ◌≤◌, ◌<◌}
use lib.Dec.{eqb}
use lib.ListN.{length, get_or-eq_default}
use borrow.Author.Tests.{eq-eqb, ne_eqb}
use Rattle.std.specs.Prelude.{Ok, Err}
use Rattle.numbers.specs.Words.{when◌then◌else◌, ◌and◌}
use Rattle.numbers.proofs.WordLaws.{if-true, if-false, split, and-true, and-false}
use Rattle.client_table.specs.declared.Goal.TheVariants.{Client}
use Rattle.client_table.specs.Found.{Found, found_in, latest_of}
use Rattle.client_table.specs.Latest.{latest_by}
use Rattle.client_table.specs.Rows.{seek, spot_of, is_there}
use Rattle.client_table.specs.Shape.{Shape, row_at}
use Rattle.client_table.proofs.SearchLaws.{there-inside}

module _ {R : Type 0} (h : Shape R) (xs : List R) (c : ℕ) where
  none : (at : ℕ) (x : R) → at ≡ spot_of h xs c → x ≡ row_at h xs (spot_of h xs c) → is_there h xs c ≡ false → Err (at, x) ≡ found_in h xs c
  unfolding found_in
  none at x p q n = (λ j. Err (p j, q j)) ∙ sym (if-false _ _ _ n)

  module _ (at : ℕ) (p : at ≡ seek h 0 (Client c) xs) where
    spot : at ≡ spot_of h xs c
    unfolding spot_of
    spot = p

    module _ (x : R) (q : x ≡ row_at h xs at) (u : Bool) (s : u ≡ h.used x) where
      here : x ≡ row_at h xs (spot_of h xs c)
      here = q ∙ ap (λ (k : ℕ). row_at h xs k) spot

      pub found-unused : u ≡ false → Err (at, x) ≡ found_in h xs c
      unfolding is_there ◌and◌
      found-unused n = none at x spot here (ap (λ (b : Bool). b and eqb (h.client (row_at h xs (spot_of h xs c))) c) (sym (ap (λ (y : R). h.used y) here) ∙ sym s ∙ n))

      module _ (k : ℕ) (i : k ≡ h.client x) where
        his : k ≡ h.client (row_at h xs (spot_of h xs c))
        his = i ∙ ap (λ (y : R). h.client y) here

        pub found-other : (k ≡ c → ⊥) → Err (at, x) ≡ found_in h xs c
        unfolding is_there
        found-other n = none at x spot here (and-false _ _ (ap (λ (j : ℕ). eqb j c) (sym his) ∙ ne_eqb k c n))

        pub found-his : u ≡ true → k ≡ c → Ok (at, x) ≡ found_in h xs c
        unfolding found_in is_there
        found-his t e =
            (λ j. Ok (spot j, here j))
            ∙ sym (if-true _ _ _ (and-true _ _ (sym (ap (λ (y : R). h.used y) here) ∙ sym s ∙ t) (ap (λ (j : ℕ). eqb j c) (sym his) ∙ eq-eqb k c e)))

    pub found-past : h.used h.blank ≡ false → length xs ≤ at → (x : R) → x ≡ h.blank → Err (at, x) ≡ found_in h xs c
    found-past b l x e =
        found-unused x (e ∙ sym (get_or-eq_default xs h.blank {n = at} l)) (h.used x) refl (ap (λ (y : R). h.used y) e ∙ b)

  -- what an answer says
  abbrev Says : Found R → Type 0
  Says (Ok p) = (is_there h xs c ≡ true) × (p.0 ≡ spot_of h xs c) × (p.1 ≡ row_at h xs (spot_of h xs c))
  Says (Err p) = (is_there h xs c ≡ false) × (p.0 ≡ spot_of h xs c) × (p.1 ≡ row_at h xs (spot_of h xs c))

  says : Says (found_in h xs c)
  unfolding found_in
  says = split Says (is_there h xs c) _ _ (λ t. (t, refl, refl)) (λ n. (n, refl, refl))

  module _ {f : Found R} (p : f ≡ found_in h xs c) where
    pub row-found : {at : ℕ} {x : R} → f ≡ Ok (at, x)
        → (is_there h xs c ≡ true) × (at ≡ spot_of h xs c) × (x ≡ row_at h xs (spot_of h xs c))
    row-found e = subst Says (sym p ∙ e) says

    pub found-inside : h.used h.blank ≡ false → {at : ℕ} {x : R} → f ≡ Ok (at, x) → at < length xs
    found-inside b e = let r = row-found e in rw (r.1) (there-inside h xs c b r.0)

    pub none-found : {p : ℕ × R} → f ≡ Err p → (is_there h xs c ≡ false) × (p.0 ≡ spot_of h xs c) × (p.1 ≡ row_at h xs (spot_of h xs c))
    none-found e = subst Says (sym p ∙ e) says

  -- what the core is told of him, by the row at his place
  pub latest-found : latest_of h (found_in h xs c)
      ≡ latest_by (is_there h xs c) (h.request (row_at h xs (spot_of h xs c))) (h.kept (row_at h xs (spot_of h xs c)))
  unfolding found_in when◌then◌else◌
  latest-found = go (is_there h xs c)
    where
      go : (b : Bool) → latest_of h (when b then Ok (spot_of h xs c, row_at h xs (spot_of h xs c)) else Err (spot_of h xs c, row_at h xs (spot_of h xs c)))
          ≡ latest_by b (h.request (row_at h xs (spot_of h xs c))) (h.kept (row_at h xs (spot_of h xs c)))
      go true = refl
      go false = refl
