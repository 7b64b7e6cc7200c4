-- Rows in two forms that are alike, row by row: what is done to the one table is done to the other, and leaves them alike.
--     Coded                                each is an outcome of the fee rules, 1 to 6
--     Alike, Both                          what is asked of a row in two forms; rows in two forms
--     spot-row, there-alike                a client's place, and whether its row stands there
--     followed-alike                       all that a call changes
-- Assumes nothing.
use mathlib.Core.Path.{◌≡◌, refl, ap, ◌∙◌}
use mathlib.Core.List.{List, [], ◌∷◌, ◌++◌}
use Prim.Native.Nat.{ℕ, zero, suc, ◌+◌, ◌-◌, ◌≤◌}
use lib.Dec.{leb}
use lib.ListN.{length, take, drop, replicate}
use Rattle.numbers.proofs.WordLaws.{split₂}
use Rattle.entries.specs.declared.Entry.{Entry}
use Rattle.fees.specs.declared.Outcome.{Outcome}
use Rattle.client_table.specs.declared.Span.{Span}
use Rattle.client_table.specs.declared.Change.{Change}
use Rattle.client_table.specs.declared.Goal.{Goal}
use Rattle.client_table.specs.declared.Goal.TheVariants.{Client, End}
use Rattle.client_table.specs.Search.{span, mid_of}
use Rattle.client_table.specs.Shape.{Shape, row_at}
use Rattle.client_table.specs.Rows.{seek_from, seek, spot_of, is_there, stored, end_of, inserted, put_row, appended, is_latest, replied, rows_committed}
use Rattle.client_table.specs.Rows.{rebuilt, followed}

-- each is an outcome that the fee rules can give
abbrev pub Coded : List Outcome → Type 0
Coded [] = Unit
Coded (o ∷ os) = ((1 ≤ o.code) × (o.code ≤ 6)) × Coded os

module _ {R Q : Type 0} (h : Shape R) (g : Shape Q) (Is : R → Q → Type 0) where
  -- alike rows say the same, and rows made of the same are alike
  pub record Alike : Type 0 where
    pub used : (x : R) (y : Q) → Is x y → h.used x ≡ g.used y
    pub client : (x : R) (y : Q) → Is x y → h.client x ≡ g.client y
    pub request : (x : R) (y : Q) → Is x y → h.request x ≡ g.request y
    pub blank : Is h.blank g.blank
    pub fresh : (e : Entry) → Is (h.fresh e) (g.fresh e)
    pub answered : (e : Entry) (o : Outcome) → 1 ≤ o.code → o.code ≤ 6 → Is (h.answered e o) (g.answered e o)

  abbrev pub Both : List R → List Q → Type 0
  Both [] [] = Unit
  Both [] (y ∷ ys) = ⊥
  Both (x ∷ xs) [] = ⊥
  Both (x ∷ xs) (y ∷ ys) = Is x y × Both xs ys

  -- ---- lists

  both-length : (xs : List R) (ys : List Q) → Both xs ys → length xs ≡ length ys
  both-length [] [] b = refl
  both-length [] (y ∷ ys) b = absurd b
  both-length (x ∷ xs) [] b = absurd b
  both-length (x ∷ xs) (y ∷ ys) b = ap suc (both-length xs ys b.1)

  both-append : (xs xs' : List R) (ys ys' : List Q) → Both xs ys → Both xs' ys' → Both (xs ++ xs') (ys ++ ys')
  both-append [] xs' [] ys' b d = d
  both-append [] xs' (y ∷ ys) ys' b d = absurd b
  both-append (x ∷ xs) xs' [] ys' b d = absurd b
  both-append (x ∷ xs) xs' (y ∷ ys) ys' b d = (b.0, both-append xs xs' ys ys' b.1 d)

  both-take : (k : ℕ) (xs : List R) (ys : List Q) → Both xs ys → Both (take k xs) (take k ys)
  both-take zero xs ys b = tt
  both-take (suc k) [] [] b = tt
  both-take (suc k) [] (y ∷ ys) b = absurd b
  both-take (suc k) (x ∷ xs) [] b = absurd b
  both-take (suc k) (x ∷ xs) (y ∷ ys) b = (b.0, both-take k xs ys b.1)

  both-drop : (k : ℕ) (xs : List R) (ys : List Q) → Both xs ys → Both (drop k xs) (drop k ys)
  both-drop zero xs ys b = b
  both-drop (suc k) [] [] b = tt
  both-drop (suc k) [] (y ∷ ys) b = absurd b
  both-drop (suc k) (x ∷ xs) [] b = absurd b
  both-drop (suc k) (x ∷ xs) (y ∷ ys) b = both-drop k xs ys b.1

  both-same : (n : ℕ) (x : R) (y : Q) → Is x y → Both (replicate n x) (replicate n y)
  both-same zero x y i = tt
  both-same (suc n) x y i = (i, both-same n x y i)

  module _ (law : Alike) where
    both_at : (xs : List R) (ys : List Q) → Both xs ys → (i : ℕ) → Is (row_at h xs i) (row_at g ys i)
    both_at [] [] b i = law.blank
    both_at [] (y ∷ ys) b i = absurd b
    both_at (x ∷ xs) [] b i = absurd b
    both_at (x ∷ xs) (y ∷ ys) b zero = b.0
    both_at (x ∷ xs) (y ∷ ys) b (suc i) = both_at xs ys b.1 i

    -- ---- the search

    from-alike : (f : ℕ) (s : Span) (goal : Goal) (xs : List R) (ys : List Q) → Both xs ys → seek_from h f s goal xs ≡ seek_from g f s goal ys
    unfolding seek_from
    from-alike zero s goal xs ys b = refl
    from-alike (suc f) s goal xs ys b =
        let i = both_at xs ys b (mid_of s) in
        rw (law.used _ _ i, law.client _ _ i, from-alike f _ goal xs ys b)

    module _ (xs : List R) (ys : List Q) (b : Both xs ys) where
      seek-alike : (a a' : ℕ) (goal : Goal) → a ≡ a' → seek h a goal xs ≡ seek g a' goal ys
      unfolding seek
      seek-alike a a' goal e = rw (e, both-length xs ys b) (from-alike (length ys) (span a' (length ys)) goal xs ys b)

      spot-alike : (c c' : ℕ) → c ≡ c' → spot_of h xs c ≡ spot_of g ys c'
      unfolding spot_of
      spot-alike c c' e = rw e (seek-alike 0 0 (Client c') refl)

      -- the rows at a client's place
      pub spot-row : (c c' : ℕ) → c ≡ c' → Is (row_at h xs (spot_of h xs c)) (row_at g ys (spot_of g ys c'))
      spot-row c c' e = rw (spot-alike c c' e) (both_at xs ys b (spot_of g ys c'))

      pub there-alike : (c c' : ℕ) → c ≡ c' → is_there h xs c ≡ is_there g ys c'
      unfolding is_there
      there-alike c c' e = let i = spot-row c c' e in rw (law.used _ _ i, law.client _ _ i, e)

      end-alike : (c c' : ℕ) → c ≡ c' → end_of h xs c ≡ end_of g ys c'
      unfolding end_of
      end-alike c c' e = seek-alike _ _ End (spot-alike c c' e)

      latest-alike : (e : Entry) → is_latest h xs e ≡ is_latest g ys e
      unfolding is_latest
      latest-alike e = rw (there-alike e.client e.client refl, law.request _ _ (spot-row e.client e.client refl))

      -- ---- a row more

      stored-alike : (at at' to to' : ℕ) (r : R) (q : Q) → at ≡ at' → to ≡ to' → Is r q
          → Both (stored h at to r xs) (stored g at' to' q ys)
      unfolding stored
      stored-alike at at' to to' r q e d i =
          rw (e, d)
          (both-append (take at' xs ++ r ∷ take (to' - at') (drop at' xs)) (drop (to' + 1) xs)
          (take at' ys ++ q ∷ take (to' - at') (drop at' ys)) (drop (to' + 1) ys)
          (both-append (take at' xs) (r ∷ take (to' - at') (drop at' xs)) (take at' ys) (q ∷ take (to' - at') (drop at' ys))
          (both-take at' xs ys b) (i, both-take (to' - at') (drop at' xs) (drop at' ys) (both-drop at' xs ys b)))
          (both-drop (to' + 1) xs ys b))

      put-alike : (r : R) (q : Q) → Is r q → Both (put_row h xs r) (put_row g ys q)
      unfolding put_row inserted
      put-alike r q i =
          let c = law.client r q i in
          let at = spot-alike _ _ c in
          let to = end-alike _ _ c in
          split₂ Both _ _ _ _ _ _ (there-alike _ _ c) (λ _. stored-alike _ _ _ _ r q at at i) λ _.
          split₂ Both _ _ _ _ _ _ (ap (λ (n : ℕ). leb n (end_of h xs (h.client r))) (both-length xs ys b) ∙ ap (leb (length ys)) to) (λ _. b)
          (λ _. stored-alike _ _ _ _ r q at to i)

      replied-alike : (e : Entry) (o : Outcome) → 1 ≤ o.code → o.code ≤ 6 → Both (replied h xs e o) (replied g ys e o)
      unfolding replied
      replied-alike e o l m =
          let at = spot-alike e.client e.client refl in
          split₂ Both _ _ _ _ _ _ (latest-alike e) (λ _. stored-alike _ _ _ _ _ _ at at (law.answered e o l m)) (λ _. b)

    -- ---- all that a call changes

    appended-alike : (xs : List R) (ys : List Q) (es : List Entry) → Both xs ys → Both (appended h xs es) (appended g ys es)
    unfolding appended
    appended-alike xs ys [] b = b
    appended-alike xs ys (e ∷ es) b = appended-alike (put_row h xs (h.fresh e)) (put_row g ys (g.fresh e)) es (put-alike xs ys b _ _ (law.fresh e))

    committed-alike : (xs : List R) (ys : List Q) (es : List Entry) (os : List Outcome) → Coded os → Both xs ys
        → Both (rows_committed h xs es os) (rows_committed g ys es os)
    unfolding rows_committed
    committed-alike xs ys [] os c b = b
    committed-alike xs ys (e ∷ es) [] c b = b
    committed-alike xs ys (e ∷ es) (o ∷ os) c b = committed-alike (replied h xs e o) (replied g ys e o) es os c.1 (replied-alike xs ys b e o c.0.0 c.0.1)

    rebuilt-alike : (xs : List R) (ys : List Q) (es : List Entry) (os : List Outcome) → Coded os → Both xs ys → Both (rebuilt h xs es os) (rebuilt g ys es os)
    unfolding rebuilt
    rebuilt-alike xs ys [] os c b = b
    rebuilt-alike xs ys (e ∷ es) [] c b = rebuilt-alike (put_row h xs (h.fresh e)) (put_row g ys (g.fresh e)) es [] c (put-alike xs ys b _ _ (law.fresh e))
    rebuilt-alike xs ys (e ∷ es) (o ∷ os) c b =
        rebuilt-alike (put_row h xs (h.answered e o)) (put_row g ys (g.answered e o)) es os c.1 (put-alike xs ys b _ _ (law.answered e o c.0.0 c.0.1))

    coded-drop : (n : ℕ) (os : List Outcome) → Coded os → Coded (drop n os)
    coded-drop zero os c = c
    coded-drop (suc n) [] c = c
    coded-drop (suc n) (o ∷ os) c = coded-drop n os c.1

    pub followed-alike : (k : Change) (xs : List R) (ys : List Q) → Both xs ys → (log : List Entry) (os : List Outcome) → Coded os
        → Both (followed h k xs log os) (followed g k ys log os)
    unfolding followed
    followed-alike k xs ys b log os c =
        split₂ Both _ _ _ _ _ _ refl
        (λ _. rebuilt-alike _ _ log os c (rw (both-length xs ys b) (both-same (length ys) h.blank g.blank law.blank)))
        (λ _.
        committed-alike _ _ (drop k.commit.0 log) (drop k.commit.0 os) (coded-drop k.commit.0 os c)
        (appended-alike xs ys (drop k.op.0 log) b))
