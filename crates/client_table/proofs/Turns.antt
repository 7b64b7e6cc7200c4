-- What each function of the table shows of the lists, one law for each way out; on any form of row, so that bytes and structs share them.
--     put-there, put-new, insert-full, insert-room                 a row that becomes its client's
--     append-turn, reply-none, reply-other, reply-same, commit-turn  the table follows a log
--     rebuild-turn, rebuild-none, rebuild-append                   the table of a log
--     commit-take, commit-nothing                                  entries past the outcomes change nothing
--     follow-installed, follow-appended, follow-committed          the whole change of a call
-- Assumes nothing.
use mathlib.Core.Path.{◌≡◌, refl, sym, ap, ◌∙◌}
use mathlib.Core.Bool.{Bool, true, false}
use mathlib.Core.List.{List, [], ◌∷◌, ◌++◌}
use Prim.Native.Nat.{ℕ, ◌≤◌, ◌<◌}
use native.Mathlib.Omega.{arith}
use lib.Dec.{eqb}
use lib.ListN.{length, take, drop, replicate}
use borrow.Author.Tests.{lt-leb, le-leb, eq-eqb, ne_eqb}
use Rattle.numbers.specs.Words.{◌and◌}
use Rattle.numbers.proofs.WordLaws.{if-true, if-false, and-true, and-false}
use Rattle.entries.specs.declared.Entry.{Entry}
use Rattle.fees.specs.declared.Outcome.{Outcome}
use Rattle.client_table.specs.declared.Change.{Change}
use Rattle.client_table.specs.declared.Goal.TheVariants.{End}
use Rattle.client_table.specs.Rows.{seek, spot_of, is_there, stored, end_of, inserted, put_row, appended, is_latest, replied, rows_committed}
use Rattle.client_table.specs.Shape.{Shape, row_at}
use Rattle.client_table.specs.Rows.{rebuilt, followed}

module _ {R : Type 0} (h : Shape R) where
  -- ---- a row that becomes its client's

  module _ (xs : List R) (r : R) (at : ℕ) (p : at ≡ spot_of h xs (h.client r)) where
    pub put-there : is_there h xs (h.client r) ≡ true → stored h at at r xs ≡ put_row h xs r
    unfolding put_row
    put-there t = rw p (sym (if-true _ _ _ t))

    pub put-new : is_there h xs (h.client r) ≡ false → inserted h xs r ≡ put_row h xs r
    unfolding put_row
    put-new t = sym (if-false _ _ _ t)

    module _ (to : ℕ) (q : to ≡ seek h at End xs) where
      pub insert-full : length xs ≤ to → xs ≡ inserted h xs r
      unfolding inserted end_of
      insert-full l = sym (if-true _ _ _ (rw (← p, ← q) (le-leb (length xs) to l)))

      pub insert-room : to < length xs → stored h at to r xs ≡ inserted h xs r
      unfolding inserted end_of
      insert-room l = sym (rw (← p, ← q) (if-false _ _ _ (lt-leb (length xs) to l)))

  -- ---- the table follows a log

  pub append-turn : (xs xs' : List R) (e : Entry) (r : R) (es es' : List Entry) → es ≡ e ∷ es' → r ≡ h.fresh e → xs' ≡ put_row h xs r
      → appended h xs es ≡ appended h xs' es'
  unfolding appended
  append-turn xs xs' e r es es' n p q = rw (n, q, p)

  pub append-none : (xs : List R) (es : List Entry) → es ≡ [] → appended h xs es ≡ xs
  unfolding appended
  append-none xs es n = rw n

  module _ (xs : List R) (e : Entry) (o : Outcome) where
    pub reply-none : is_there h xs e.client ≡ false → xs ≡ replied h xs e o
    unfolding replied is_latest ◌and◌
    reply-none n = sym (if-false _ _ _ (ap (λ (b : Bool). b and eqb (h.request (row_at h xs (spot_of h xs e.client))) e.request) n))

    module _ (at : ℕ) (x : R) (f : (is_there h xs e.client ≡ true) × (at ≡ spot_of h xs e.client) × (x ≡ row_at h xs (spot_of h xs e.client)))
        (k : ℕ) (m : k ≡ h.request x) where
      number : k ≡ h.request (row_at h xs (spot_of h xs e.client))
      number = m ∙ ap (λ (y : R). h.request y) f.2

      pub reply-other : (k ≡ e.request → ⊥) → xs ≡ replied h xs e o
      unfolding replied is_latest
      reply-other n = sym (if-false _ _ _ (and-false _ _ (ap (λ (j : ℕ). eqb j e.request) (sym number) ∙ ne_eqb k e.request n)))

      pub reply-same : k ≡ e.request → (r : R) → r ≡ h.answered e o → stored h at at r xs ≡ replied h xs e o
      unfolding replied is_latest
      reply-same n r q =
          rw (q, f.1) (sym (if-true _ _ _ (and-true _ _ f.0 (ap (λ (j : ℕ). eqb j e.request) (sym number) ∙ eq-eqb k e.request n))))

  pub commit-turn : (xs xs' : List R) (e : Entry) (o : Outcome) (es es' : List Entry) (os os' : List Outcome) → es ≡ e ∷ es' → os ≡ o ∷ os'
      → xs' ≡ replied h xs e o → rows_committed h xs es os ≡ rows_committed h xs' es' os'
  unfolding rows_committed
  commit-turn xs xs' e o es es' os os' n m q = rw (n, m, q)

  pub commit-nothing : (xs : List R) (es : List Entry) (os : List Outcome) → os ≡ [] → rows_committed h xs es os ≡ xs
  unfolding rows_committed
  commit-nothing xs [] os n = refl
  commit-nothing xs (e ∷ es) os n = rw n

  pub commit-take : (xs : List R) (es : List Entry) (os : List Outcome) → rows_committed h xs es os ≡ rows_committed h xs (take (length os) es) os
  unfolding rows_committed
  commit-take xs [] [] = refl
  commit-take xs [] (o ∷ os) = refl
  commit-take xs (e ∷ es) [] = refl
  commit-take xs (e ∷ es) (o ∷ os) = commit-take (replied h xs e o) es os

  -- ---- the table of a log

  pub rebuild-turn : (xs xs' : List R) (e : Entry) (o : Outcome) (r : R) (es es' : List Entry) (os os' : List Outcome) → es ≡ e ∷ es' → os ≡ o ∷ os'
      → r ≡ h.answered e o → xs' ≡ put_row h xs r → rebuilt h xs es os ≡ rebuilt h xs' es' os'
  unfolding rebuilt
  rebuild-turn xs xs' e o r es es' os os' n m p q = rw (n, m, q, p)

  pub rebuild-none : (xs : List R) (es : List Entry) (os : List Outcome) → es ≡ [] → rebuilt h xs es os ≡ xs
  unfolding rebuilt
  rebuild-none xs es os n = rw n

  -- entries past the outcomes are appended
  pub rebuild-append : (xs : List R) (es fs : List Entry) (os : List Outcome) → length es ≡ length os
      → rebuilt h xs (es ++ fs) os ≡ appended h (rebuilt h xs es os) fs
  unfolding rebuilt appended
  rebuild-append xs [] [] [] l = refl
  rebuild-append xs [] (f ∷ fs) [] l = rebuild-append (put_row h xs (h.fresh f)) [] fs [] l
  rebuild-append xs [] fs (o ∷ os) l = absurd (omega arith)
  rebuild-append xs (e ∷ es) fs [] l = absurd (omega arith)
  rebuild-append xs (e ∷ es) fs (o ∷ os) l = rebuild-append (put_row h xs (h.answered e o)) es fs os (omega arith)

  -- ---- the whole change of a call

  module _ (k : Change) (xs : List R) (log : List Entry) (os : List Outcome) where
    pub follow-installed : (n : ℕ) → length xs ≡ n → k.installed ≡ true → rebuilt h (replicate n h.blank) log os ≡ followed h k xs log os
    unfolding followed
    follow-installed n e i = rw (← e) (sym (if-true _ _ _ i))

    module _ (i : k.installed ≡ false) (ys : List R) (y : ys ≡ appended h xs (drop k.op.0 log)) where
      pub follow-appended : drop k.commit.0 os ≡ [] → ys ≡ followed h k xs log os
      unfolding followed
      follow-appended e =
          y ∙ sym (commit-nothing (appended h xs (drop k.op.0 log)) (drop k.commit.0 log) (drop k.commit.0 os) e) ∙ sym (if-false _ _ _ i)

      pub follow-committed : (es : List Entry) (qs : List Outcome) → drop k.commit.0 os ≡ qs → take (length qs) (drop k.commit.0 log) ≡ es
          → rows_committed h ys es qs ≡ followed h k xs log os
      unfolding followed
      follow-committed es qs q e =
          rw (q, y, ← e) (sym (commit-take (appended h xs (drop k.op.0 log)) (drop k.commit.0 log) qs)) ∙ sym (if-false _ _ _ i)
