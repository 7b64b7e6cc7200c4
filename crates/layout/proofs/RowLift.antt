-- Rows searched by halves, in rising order of client and unused ones last, do what the model's table does: find, and put.
--     Means, means-of                               rows that stand for a table
--     spot_is, end_is                               where the search comes to
--     find-lift, find-there, find-row               what is found of a client
--     replace-lift, put-lift                        a row stored in place of the client's, or as a new one
-- Assumes nothing.
use Prim.Native.Nat.{ℕ, zero, suc, ◌+◌, ◌-◌, ◌≤◌, ◌<◌}
use native.Mathlib.Nat.{add-zero, sub_self, le_refl}
use native.Mathlib.Omega.{arith}
use mathlib.Core.Path.{◌≡◌, refl, sym, ap, ◌∙◌}
use mathlib.Core.Bool.{Bool, true, false}
use mathlib.Core.List.{List, [], ◌∷◌, ◌++◌, append_assoc, append-nil}
use mathlib.Core.Logic.{◌⊎◌, inl, inr}
use mathlib.Core.Option.{none}
use lib.Dec.{ltb, eqb}
use lib.ListN.{length, get_or, take, drop, length-append, length-take, length-drop, drop_of_length-le}
use lib.Seq.{get_or-drop, take_all}
use borrow.Author.Tests.{lt-ltb, le-ltb, leb-true}
use Rattle.numbers.specs.Words.{when◌then◌else◌, ◌and◌}
use Rattle.numbers.proofs.WordLaws.{split, split₂, if-true, if-false, and-true, and-false}
use Rattle.numbers.proofs.NumberLaws.{le-or-lt}
use Rattle.client_table.specs.declared.Goal.TheVariants.{Client, End}
use Rattle.client_table.specs.Search.{is_before}
use Rattle.client_table.specs.Lawful.{Lawful}
use Rattle.client_table.specs.Rows.{seek, spot_of, is_there, stored, end_of, inserted, put_row}
use Rattle.client_table.specs.Shape.{Shape, row_at}
use Rattle.client_table.proofs.SeekLaws.{before_at, seek_is}
use Rattle.client_table.proofs.StoreLaws.{stored-length, stored-behind}
use Rattle.model.specs.State.{ClientEntry}
use Rattle.model.specs.Book.{Seen, find, put, Rises}
use Rattle.layout.specs.Layout.{meant, table_in, Ordered}
use Rattle.model.proofs.TableLaws.{above_more, put-rises, absent, below, below-le, below-low, below-high, Floor, below_floor}
use Rattle.model.proofs.TableLaws.{drop-rises, find_past, put-there, put-new, there-inside}

pub none-and : (a b : Bool) → a ≡ false → (a and b) ≡ false
unfolding ◌and◌
none-and a b p = rw p

-- read past a table's end, where no law looks
abbrev no_row : ClientEntry
no_row = record { client = 0; request = 0; kept = none }

module _ {R : Type 0} (h : Shape R) where
  -- n rows as calls leave them, that stand for the table t
  pub record Means (n : ℕ) (t : List ClientEntry) (xs : List R) : Type 0 where
    pub long : length xs ≡ n
    pub table : table_in h xs ≡ t
    pub ordered : Ordered h xs

  pub means-of : (xs : List R) → Ordered h xs → Means (length xs) (table_in h xs) xs
  means-of xs o = record { long = refl; table = refl; ordered = o }

  -- ---- the table of a part

  pub rows_long : (xs : List R) → length (table_in h xs) ≤ length xs
  unfolding table_in
  rows_long [] = omega arith
  rows_long (x ∷ xs) = split (λ (l : List ClientEntry). length l ≤ length (x ∷ xs)) _ _ _ (λ _. omega (arith, rows_long xs)) (λ _. omega arith)

  row_is : (xs : List R) (i : ℕ) (d : ClientEntry) → i < length (table_in h xs)
      → (h.used (row_at h xs i) ≡ true) × (h.client (row_at h xs i) ≡ (get_or (table_in h xs) i d).client)
  unfolding table_in meant
  row_is [] i d l = absurd (omega arith)
  row_is (x ∷ xs) zero d l =
      split (λ (t : List ClientEntry). 0 < length t → (h.used x ≡ true) × (h.client x ≡ (get_or t 0 d).client)) _ _ _
      (λ u m. (u, refl)) (λ _ m. absurd (omega arith)) l
  row_is (x ∷ xs) (suc i) d l =
      split
      (λ (t : List ClientEntry). suc i < length t → (h.used (row_at h xs i) ≡ true) × (h.client (row_at h xs i) ≡ (get_or t (suc i) d).client)) _ _ _
      (λ u m. row_is xs i d (omega arith)) (λ _ m. absurd (omega arith)) l

  front : (k : ℕ) (xs zs : List R) → k ≤ length (table_in h xs) → table_in h (take k xs ++ zs) ≡ take k (table_in h xs) ++ table_in h zs
  unfolding table_in
  front zero xs zs l = refl
  front (suc k) [] zs l = absurd (omega arith)
  front (suc k) (x ∷ xs) zs l =
      split₂ (λ (a b : List ClientEntry). suc k ≤ length b → a ≡ take (suc k) b ++ table_in h zs) _ _ _ _ _ _ refl
      (λ _ m. ap (◌∷◌ (meant h x)) (front k xs zs (omega arith))) (λ _ m. absurd (omega arith)) l

  pub unused : (xs : List R) → h.used (row_at h xs 0) ≡ false → table_in h xs ≡ []
  unfolding table_in
  unused [] u = refl
  unused (x ∷ xs) u = if-false _ _ _ u

  back : (k : ℕ) (xs : List R) → ((i : ℕ) → length (table_in h xs) ≤ i → h.used (row_at h xs i) ≡ false)
      → table_in h (drop k xs) ≡ drop k (table_in h xs)
  unfolding table_in
  back zero xs last = refl
  back (suc k) [] last = refl
  back (suc k) (x ∷ xs) last =
      split (λ (l : List ClientEntry). ((i : ℕ) → length l ≤ i → h.used (row_at h (x ∷ xs) i) ≡ false) → table_in h (drop k xs) ≡ drop (suc k) l) _ _ _
      (λ _ p. back k xs (λ i m. p (suc i) (omega arith)))
      (λ _ p.
      unused (drop k xs)
      (ap (λ (x : R). h.used x) (get_or-drop k xs 0 h.blank ∙ ap (λ (i : ℕ). get_or xs i h.blank) (add-zero k)) ∙ p (suc k) (omega arith)))
      last

  -- what a row says of a client
  abbrev pub seen_at : R → ℕ → Seen
  seen_at x c =
      when h.used x and eqb (h.client x) c then record { there = true; request = h.request x; kept = h.kept x } else find [] c

  -- told by the first row, where all are of the client or above it
  head-seen : h.used h.blank ≡ false → (ys : List R) (c : ℕ) → Rises (table_in h ys) → Floor c (table_in h ys)
      → find (table_in h ys) c ≡ seen_at (row_at h ys 0) c
  unfolding table_in meant find
  head-seen e [] c s f = sym (if-false _ _ _ (none-and _ _ e))
  head-seen e (y ∷ ys) c s f =
      split (λ (t : List ClientEntry). Rises t → Floor c t → find t c ≡ seen_at y c) _ _ _
      (λ u r g.
      split (λ (z : Seen). z ≡ seen_at y c) _ _ _
      (λ eq. sym (if-true _ _ _ (and-true _ _ u eq)))
      (λ ne. absent c (table_in h ys) (above_more c (h.client y) (table_in h ys) g r.0) ∙ sym (if-false _ _ _ (and-false _ _ ne))))
      (λ u r g. sym (if-false _ _ _ (none-and _ _ u))) s f

  -- ---- the search

  module _ (xs : List R) (o : Ordered h xs) where
    low : (c j : ℕ) → j < below c (table_in h xs) → before_at h (Client c) xs j ≡ true
    unfolding is_before
    low c j l =
        let r = row_is xs j no_row (omega (arith, below-le c (table_in h xs))) in
        and-true _ _ r.0 (lt-ltb (h.client (row_at h xs j)) c (omega (arith, r.1, below-low c (table_in h xs) j no_row l)))

    high : (c j : ℕ) → below c (table_in h xs) ≤ j → before_at h (Client c) xs j ≡ false
    unfolding is_before
    high c j l = side (le-or-lt (length (table_in h xs)) j)
      where
        side : (length (table_in h xs) ≤ j) ⊎ (j < length (table_in h xs))
            → (h.used (row_at h xs j) and ltb (h.client (row_at h xs j)) c) ≡ false
        side (inl m) = none-and _ _ (o.unused-last j m)
        side (inr m) =
            let a : c ≤ (get_or (table_in h xs) j no_row).client = below-high c (table_in h xs) j no_row o.rises l m in
            and-false _ _ (le-ltb (h.client (row_at h xs j)) c (omega (arith, (row_is xs j no_row m).1)))

    pub spot_is : (c : ℕ) → spot_of h xs c ≡ below c (table_in h xs)
    unfolding spot_of
    spot_is c =
        let l : below c (table_in h xs) ≤ length (table_in h xs) = below-le c (table_in h xs) in
        seek_is h (Client c) xs (below c (table_in h xs)) (low c) (high c) 0 (omega arith) (omega (arith, rows_long xs))

    pub end_is : (a : ℕ) → a ≤ length (table_in h xs) → seek h a End xs ≡ length (table_in h xs)
    unfolding is_before
    end_is a l =
        seek_is h End xs (length (table_in h xs)) (λ j m. (row_is xs j no_row m).0) o.unused-last a l (rows_long xs)

    end-spot : (c : ℕ) → end_of h xs c ≡ length (table_in h xs)
    unfolding end_of
    end-spot c = end_is (spot_of h xs c) (omega (arith, spot_is c, below-le c (table_in h xs)))

    -- ---- find

    pub find-lift : Lawful h → (c : ℕ) → find (table_in h xs) c ≡ seen_at (row_at h xs (spot_of h xs c)) c
    find-lift law c =
        let t : List ClientEntry = table_in h xs in
        let p : ℕ = below c t in
        let e : table_in h (drop p xs) ≡ drop p t = back p xs o.unused-last in
        find_past c t
        ∙ ap (λ (l : List ClientEntry). find l c) (sym e)
        ∙ head-seen law.blank (drop p xs) c (rw e (drop-rises p t o.rises)) (rw e (below_floor c t))
        ∙ ap (λ (x : R). seen_at x c) (get_or-drop p xs 0 h.blank ∙ ap (λ (i : ℕ). get_or xs i h.blank) (add-zero p ∙ sym (spot_is c)))

    pub find-there : Lawful h → (c : ℕ) → (find (table_in h xs) c).there ≡ is_there h xs c
    unfolding is_there find
    find-there law c =
        ap (λ (z : Seen). z.there) (find-lift law c)
        ∙ split₂ (λ (z : Seen) (b : Bool). z.there ≡ b) _ _ _ _ _ _ refl (λ _. refl) (λ _. refl) ∙ as_is _
      where
        as_is : (b : Bool) → (when b then true else false) ≡ b
        as_is b = split (λ (a : Bool). a ≡ b) b true false (λ e. sym e) (λ e. sym e)

    pub find-row : Lawful h → (c : ℕ) → is_there h xs c ≡ true
        → ((find (table_in h xs) c).request ≡ h.request (row_at h xs (spot_of h xs c)))
        × ((find (table_in h xs) c).kept ≡ h.kept (row_at h xs (spot_of h xs c)))
    unfolding is_there
    find-row law c p =
        let e = find-lift law c ∙ if-true _ _ _ p in
        (ap (λ (z : Seen). z.request) e, ap (λ (z : Seen). z.kept) e)

    -- ---- a row stored

    module _ (at to : ℕ) (r : R) (le : at ≤ to) (within : to ≤ length (table_in h xs)) (lt : to < length xs) (u : h.used r ≡ true) where
      stored-table : table_in h (stored h at to r xs)
          ≡ take at (table_in h xs) ++ meant h r ∷ (take (to - at) (drop at (table_in h xs)) ++ drop (to + 1) (table_in h xs))
      unfolding stored table_in
      stored-table =
          let t : List ClientEntry = table_in h xs in
          let a : List R = take (to - at) (drop at xs) in
          let b : List R = drop (to + 1) xs in
          let e : table_in h (drop at xs) ≡ drop at t = back at xs o.unused-last in
          let n : length (drop at t) ≡ length t - at = length-drop at t in
          let long : to - at ≤ length (table_in h (drop at xs)) = rw e (omega arith) in
          ap (table_in h) (append_assoc (take at xs) (r ∷ a) b)
          ∙ front at xs (r ∷ (a ++ b)) (omega arith)
          ∙ ap (λ (l : List ClientEntry). take at t ++ l)
          (if-true (h.used r) _ _ u ∙ ap (◌∷◌ (meant h r)) (front (to - at) (drop at xs) b long ∙ cc (e, back (to + 1) xs o.unused-last)))

      stored-means : (t : List ClientEntry) → Rises t
          → take at (table_in h xs) ++ meant h r ∷ (take (to - at) (drop at (table_in h xs)) ++ drop (to + 1) (table_in h xs)) ≡ t
          → Means (length xs) t (stored h at to r xs)
      stored-means t s e =
          let q : table_in h (stored h at to r xs) ≡ t = stored-table ∙ e in
          let n : length (table_in h (stored h at to r xs)) ≡ at + suc (to - at + (length (table_in h xs) - (to + 1))) =
          ap (λ (l : List ClientEntry). length l) stored-table ∙ simp (length-append, length-take, length-drop) (omega arith) in
          record {
            long = stored-length h at to r xs le lt;
            table = q;
            ordered =
                record {
                  rises = rw q s;
                  unused-last =
                      λ i m. ap (λ (x : R). h.used x) (stored-behind h at to r xs le lt i (omega arith)) ∙ o.unused-last i (omega arith);
                };
          }

    module _ (law : Lawful h) (r : R) (u : h.used r ≡ true) where
      replaced : is_there h xs (h.client r) ≡ true
          → Means (length xs) (put (table_in h xs) (meant h r)) (stored h (spot_of h xs (h.client r)) (spot_of h xs (h.client r)) r xs)
      unfolding meant
      replaced p =
          let t : List ClientEntry = table_in h xs in
          let k : ℕ = below (h.client r) t in
          let f : (find t (h.client r)).there ≡ true = find-there law (h.client r) ∙ p in
          let i : k < length t = there-inside (h.client r) t f in
          rw (spot_is (h.client r))
          (stored-means k k r (le_refl k) (omega arith) (omega (arith, rows_long xs)) u (put t (meant h r))
          (put-rises t (meant h r) o.rises)
          (ap (λ (j : ℕ). take k t ++ meant h r ∷ (take j (drop k t) ++ drop (k + 1) t)) (sub_self k)
          ∙ sym (put-there (meant h r) t o.rises f)))

      added : is_there h xs (h.client r) ≡ false → length (table_in h xs) < length xs
          → Means (length xs) (put (table_in h xs) (meant h r)) (inserted h xs r)
      unfolding meant inserted
      added p room =
          let t : List ClientEntry = table_in h xs in
          let k : ℕ = below (h.client r) t in
          let f : (find t (h.client r)).there ≡ false = find-there law (h.client r) ∙ p in
          let e : end_of h xs (h.client r) ≡ length t = end-spot (h.client r) in
          let n : length (drop k t) ≡ length t - k = length-drop k t in
          split (Means (length xs) (put t (meant h r))) _ _ _
          (λ full. let l : length xs ≤ end_of h xs (h.client r) = leb-true _ _ full in absurd (omega arith))
          (λ _.
          rw (spot_is (h.client r), e)
          (stored-means k (length t) r (below-le (h.client r) t) (le_refl (length t)) room u (put t (meant h r))
          (put-rises t (meant h r) o.rises)
          (let a : take (length t - k) (drop k t) ≡ drop k t = take_all (length t - k) (drop k t) (omega arith) in
          let b : drop (length t + 1) t ≡ [] = drop_of_length-le t {i = length t + 1} (omega arith) in
          cc (append-nil (drop k t), put-new (meant h r) t f))))

      put-rows : (is_there h xs (h.client r) ≡ false → length (table_in h xs) < length xs)
          → Means (length xs) (put (table_in h xs) (meant h r)) (put_row h xs r)
      unfolding put_row
      put-rows room = split (Means (length xs) (put (table_in h xs) (meant h r))) _ _ _ replaced (λ p. added p (room p))

  -- ---- rows that stand for a table

  module _ (law : Lawful h) (n : ℕ) (t : List ClientEntry) (xs : List R) (m : Means n t xs) (r : R) (u : h.used r ≡ true) where
    pub replace-lift : (c : ℕ) → h.client r ≡ c → is_there h xs c ≡ true
        → Means n (put t (meant h r)) (stored h (spot_of h xs c) (spot_of h xs c) r xs)
    replace-lift c q p = rw (← m.table, ← m.long, ← q) (replaced xs m.ordered law r u (rw q p))

    pub put-lift : (is_there h xs (h.client r) ≡ false → length t < n) → Means n (put t (meant h r)) (put_row h xs r)
    put-lift room =
        let e : length (table_in h xs) ≡ length t = ap (λ (l : List ClientEntry). length l) m.table in
        rw (← m.table, ← m.long) (put-rows xs m.ordered law r u (λ p. omega (arith, room p, m.long)))
