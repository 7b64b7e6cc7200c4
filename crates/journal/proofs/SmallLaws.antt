-- No total that the fee rules leave is above 1,000,000,000.
--     small-none                    totals of 0
--     small-outcome, small-after, small-through    what an entry gives, and what one leaves, and many
-- Assumes nothing.
use mathlib.Core.Path.{◌≡◌, refl}
use mathlib.Core.Bool.{true}
use mathlib.Core.List.{List, [], ◌∷◌}
use Prim.Native.Nat.{ℕ, zero, suc, ◌≤◌}
use native.Mathlib.Omega.{arith}
use lib.Dec.{leb}
use lib.ListN.{get_or, set}
use borrow.Author.Tests.{leb-true, le-leb}
use Rattle.numbers.specs.Words.{◌and◌}
use Rattle.numbers.proofs.WordLaws.{split, and_both}
use Rattle.entries.specs.Entries.{operation_of}
use Rattle.entries.specs.declared.Entry.{Entry}
use Rattle.fees.specs.declared.Outcome.{Outcome}
use Rattle.fees.proofs.FeeLaws.{fee-small}
use Rattle.model.specs.Book.{outcome, totals_after, through}
use Rattle.journal.specs.Journal.{no_totals}
use Rattle.journal.specs.Calls.{all_small}

pub small-none : (M : ℕ) → all_small (no_totals M) ≡ true
unfolding all_small ◌and◌
small-none zero = refl
small-none (suc M) = small-none M

small-get : (ts : List ℕ) (i : ℕ) → all_small ts ≡ true → get_or ts i 0 ≤ 1000000000
unfolding all_small
small-get [] i h = omega arith
small-get (t ∷ ts) zero h = leb-true t 1000000000 (and_both _ _ h).0
small-get (t ∷ ts) (suc i) h = small-get ts i (and_both _ _ h).1

small-set : (ts : List ℕ) (i t : ℕ) → all_small ts ≡ true → t ≤ 1000000000 → all_small (set ts i t) ≡ true
unfolding all_small ◌and◌
small-set [] i t h l = refl
small-set (u ∷ us) zero t h l = rw (le-leb t 1000000000 l) (and_both (leb u 1000000000) (all_small us) h).1
small-set (u ∷ us) (suc i) t h l = rw (and_both (leb u 1000000000) (all_small us) h).0 (small-set us i t (and_both (leb u 1000000000) (all_small us) h).1 l)

module _ (ts : List ℕ) (small : all_small ts ≡ true) where
  pub small-outcome : (e : Entry) → (outcome ts e).total ≤ 1000000000
  unfolding outcome
  small-outcome e =
      split (λ (o : Outcome). o.total ≤ 1000000000) _ _ _
      (λ _. fee-small (get_or ts e.member 0) e.cents (operation_of e.operation) (small-get ts e.member small)) (λ _. omega arith)

  pub small-after : (e : Entry) → all_small (totals_after ts e) ≡ true
  unfolding totals_after
  small-after e = split (λ (us : List ℕ). all_small us ≡ true) _ _ _ (λ _. small-set ts e.member _ small (small-outcome e)) (λ _. small)

pub small-through : (ts : List ℕ) (es : List Entry) → all_small ts ≡ true → all_small (through ts es) ≡ true
unfolding through
small-through ts [] h = h
small-through ts (e ∷ es) h = small-through (totals_after ts e) es (small-after ts h e)
