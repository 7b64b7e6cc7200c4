-- The takings that are kept are all totals added up.
--     sum-most        totals inside their limit don't add up to more than the most
--     takings-one     one entry: what it gave changes the sum as it changes its member's total
--     takings-sum     any entries, from totals whose sum is kept
-- Assumes nothing.
use Prim.Native.Nat.{ℕ, ◌*◌, ◌≤◌}
use native.Mathlib.Omega.{arith}
use mathlib.Core.Path.{◌≡◌, refl, ap, ◌∙◌}
use mathlib.Core.Logic.{⊎_elim}
use mathlib.Core.List.{List, [], ◌∷◌}
use lib.ListN.{length}
use borrow.Author.Tests.{eq-eqb, ne_eqb}
use Rattle.numbers.specs.Words.{All}
use Rattle.numbers.proofs.NumberLaws.{eq-or-not}
use Rattle.numbers.proofs.WordLaws.{if-true, if-false}
use Rattle.entries.specs.declared.Entry.{Entry}
use Rattle.fees.specs.Takings.{takings_after}
use Rattle.fees.proofs.TakingsLaws.{fee-adds, refund-takes, else-stays}
use Rattle.model.specs.Book.{outcome, totals_after, through, takings_through}
use Rattle.model.proofs.BookLaws.{after-length}
use Rattle.safety.specs.Money.{fee_taken, refund_paid, sum}
use Rattle.safety.specs.Ranges.{Small}
use Rattle.safety.proofs.Money.{sum_one}
use Rattle.safety.proofs.Changes.{after_small}

pub sum-most : (ts : List ℕ) → All Small ts → sum ts ≤ 1000000000 * length ts
unfolding sum
sum-most [] p = omega arith
sum-most (t ∷ ts) p = omega (arith, p.0, sum-most ts p.1)

module _ (ts : List ℕ) (e : Entry) where
  paid-none : ((outcome ts e).code ≡ 2 → ⊥) → refund_paid ts e ≡ 0
  unfolding refund_paid
  paid-none n = if-false _ _ _ (ne_eqb _ 2 n)

  paid-all : (outcome ts e).code ≡ 2 → refund_paid ts e ≡ e.cents
  unfolding refund_paid
  paid-all h = if-true _ _ _ (eq-eqb _ 2 h)

  taken_none : ((outcome ts e).code ≡ 1 → ⊥) → fee_taken ts e ≡ 0
  unfolding fee_taken
  taken_none n = if-false _ _ _ (ne_eqb _ 1 n)

  taken-all : (outcome ts e).code ≡ 1 → fee_taken ts e ≡ e.cents
  unfolding fee_taken
  taken-all h = if-true _ _ _ (eq-eqb _ 1 h)

  takings-one : All Small ts → length ts ≤ 4096 → takings_after (sum ts) (outcome ts e) e.cents ≡ sum (totals_after ts e)
  takings-one p l =
      let s = sum_one ts e in
      let w : sum (totals_after ts e) ≤ 1000000000 * length (totals_after ts e) = sum-most (totals_after ts e) (after_small ts e p) in
      let n : length (totals_after ts e) ≡ length ts = after-length ts e in
      ⊎_elim
      (λ h. fee-adds (sum ts) (outcome ts e) e.cents h ∙ omega (arith, s, w, n, l, taken-all h, paid-none (λ g. omega (arith, g, h))))
      (λ a.
      ⊎_elim (λ h. refund-takes (sum ts) (outcome ts e) e.cents h ∙ omega (arith, s, paid-all h, taken_none a))
      (λ b. else-stays (sum ts) (outcome ts e) e.cents a b ∙ omega (arith, s, paid-none b, taken_none a)) (eq-or-not (outcome ts e).code 2))
      (eq-or-not (outcome ts e).code 1)

pub takings-sum : (ts : List ℕ) (es : List Entry) → All Small ts → length ts ≤ 4096 → takings_through (sum ts) ts es ≡ sum (through ts es)
unfolding takings_through through
takings-sum ts [] p l = refl
takings-sum ts (e ∷ es) p l =
    ap (λ (t : ℕ). takings_through t (totals_after ts e) es) (takings-one ts e p l)
    ∙ takings-sum (totals_after ts e) es (after_small ts e p) (omega (arith, after-length ts e))
