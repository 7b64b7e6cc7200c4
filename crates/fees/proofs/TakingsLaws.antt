-- The takings after an entry, by what it gave.
--     fee-adds, refund-takes, else-stays   each outcome
-- Assumes nothing.
use mathlib.Core.Path.{◌≡◌}
use Prim.Native.Nat.{ℕ, ◌-◌}
use native.Mathlib.Omega.{arith}
use borrow.Author.Tests.{eq-eqb, ne_eqb}
use Rattle.numbers.proofs.WordLaws.{if-true, if-false}
use Rattle.fees.specs.Takings.{added, takings_after}
use Rattle.fees.specs.declared.Outcome.{Outcome}

module _ (t : ℕ) (o : Outcome) (cents : ℕ) where
  pub fee-adds : o.code ≡ 1 → takings_after t o cents ≡ added t cents
  unfolding takings_after
  fee-adds h = if-true _ _ _ (eq-eqb o.code 1 h)

  pub refund-takes : o.code ≡ 2 → takings_after t o cents ≡ t - cents
  unfolding takings_after
  refund-takes h = rw (if-false _ (added t cents) _ (ne_eqb o.code 1 (λ e. omega (arith, e, h)))) (if-true _ _ _ (eq-eqb o.code 2 h))

  pub else-stays : (o.code ≡ 1 → ⊥) → (o.code ≡ 2 → ⊥) → takings_after t o cents ≡ t
  unfolding takings_after
  else-stays n m = rw (if-false _ (added t cents) _ (ne_eqb o.code 1 n)) (if-false _ _ _ (ne_eqb o.code 2 m))
