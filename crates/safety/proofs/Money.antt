-- A member's total is the fees taken from it less the refunds paid to it, and so is the sum of all totals. Assumes nothing.
use Prim.Native.Nat.{ℕ, zero, suc, ◌+◌, ◌-◌, ◌<◌}
use native.Mathlib.Omega.{arith}
use mathlib.Core.Path.{◌≡◌, refl, ap}
use mathlib.Core.Bool.{Bool, true, false}
use mathlib.Core.List.{List, [], ◌∷◌}
use lib.Dec.{ltb, eqb}
use lib.ListN.{length, get_or, set, replicate}
use lib.Seq.{get_or-set_same, get_or-set_other}
use borrow.Author.Tests.{ltb-true, ltb-false, eqb-true, eqb-false}
use Rattle.numbers.specs.Words.{when◌then◌else◌}
use Rattle.numbers.proofs.WordLaws.{split, if-true, if-false}
use Rattle.entries.specs.Entries.{operation_of}
use Rattle.entries.specs.declared.Entry.{Entry}
use Rattle.entries.specs.declared.Operation.{Operation}
use Rattle.entries.specs.declared.Operation.TheVariants.{Fee, Refund, Ask}
use Rattle.fees.specs.Fees.{gives, rule}
use Rattle.fees.specs.declared.Outcome.{Outcome}
use Rattle.model.specs.Book.{outcome, totals_after, through}
use Rattle.safety.specs.Money.{fee_taken, refund_paid, fees_of, refunds_of, all_fees, all_refunds, sum}

-- the rules on one total: what it was, with the fee, is what it is, with the refund
balanced : ℕ → ℕ → Outcome → Type 0
balanced t cents o = o.total + (when eqb o.code 2 then cents else 0) ≡ t + (when eqb o.code 1 then cents else 0)

rule-balanced : (t : ℕ) (op : Operation) (cents : ℕ) → balanced t cents (rule t op cents)
unfolding rule balanced when◌then◌else◌
rule-balanced t Fee cents =
    split (balanced t cents) (ltb 1000000000 (t + cents)) (gives 5 t) (gives 1 (t + cents)) (λ _. refl) (λ _. omega arith)
rule-balanced t Refund cents =
    split (balanced t cents) (ltb t cents) (gives 6 t) (gives 2 (t - cents)) (λ _. refl) (λ h. omega (arith, ltb-false t cents h))
rule-balanced t Ask cents = refl

-- an entry whose member is inside, and one whose member is not
module _ (ts : List ℕ) (e : Entry) where
  inside : ltb e.member (length ts) ≡ true → (outcome ts e).total + refund_paid ts e ≡ get_or ts e.member 0 + fee_taken ts e
  unfolding outcome refund_paid fee_taken balanced
  inside h =
      rw (if-true _ _ (gives 4 0) h)
      (rule-balanced (get_or ts e.member 0) (operation_of e.operation) e.cents)

  inside-after : ltb e.member (length ts) ≡ true → totals_after ts e ≡ set ts e.member (outcome ts e).total
  unfolding totals_after
  inside-after h = if-true _ _ _ h

  outside-after : ltb e.member (length ts) ≡ false → totals_after ts e ≡ ts
  unfolding totals_after
  outside-after h = if-false _ _ _ h

  outside : ltb e.member (length ts) ≡ false → (refund_paid ts e ≡ 0) × (fee_taken ts e ≡ 0)
  unfolding outcome refund_paid fee_taken when◌then◌else◌
  outside h = rw h (refl, refl)

-- one entry, at any member
module _ (k : ℕ) (ts : List ℕ) (e : Entry) where
  own : eqb k e.member ≡ true → get_or (totals_after ts e) k 0 + refund_paid ts e ≡ get_or ts k 0 + fee_taken ts e
  own p = go _ refl
    where
      go : (b : Bool) → ltb e.member (length ts) ≡ b → get_or (totals_after ts e) k 0 + refund_paid ts e ≡ get_or ts k 0 + fee_taken ts e
      go true h =
          rw (inside-after ts e h, eqb-true k e.member p, get_or-set_same ts e.member (outcome ts e).total 0 (ltb-true _ _ h))
          (inside ts e h)
      go false h = rw (outside-after ts e h, (outside ts e h).0, (outside ts e h).1)

  other : eqb k e.member ≡ false → get_or (totals_after ts e) k 0 ≡ get_or ts k 0
  other p = go _ refl
    where
      go : (b : Bool) → ltb e.member (length ts) ≡ b → get_or (totals_after ts e) k 0 ≡ get_or ts k 0
      go true h = rw (inside-after ts e h) (get_or-set_other ts e.member k _ 0 (eqb-false _ _ p))
      go false h = rw (outside-after ts e h)

  one : get_or (totals_after ts e) k 0 + (when eqb k e.member then refund_paid ts e else 0)
      ≡ get_or ts k 0 + (when eqb k e.member then fee_taken ts e else 0)
  one = go _ refl
    where
      go : (b : Bool) → eqb k e.member ≡ b
          → get_or (totals_after ts e) k 0 + (when eqb k e.member then refund_paid ts e else 0)
          ≡ get_or ts k 0 + (when eqb k e.member then fee_taken ts e else 0)
      go true p = rw (if-true _ (refund_paid ts e) 0 p, if-true _ (fee_taken ts e) 0 p) (own p)
      go false p = rw (if-false _ (refund_paid ts e) 0 p, if-false _ (fee_taken ts e) 0 p) (ap (λ (x : ℕ). x + 0) (other p))

total : (k : ℕ) (ts : List ℕ) (es : List Entry) → get_or (through ts es) k 0 + refunds_of k ts es ≡ get_or ts k 0 + fees_of k ts es
unfolding through refunds_of fees_of
total k ts [] = refl
total k ts (e ∷ es) = omega (arith, one k ts e, total k (totals_after ts e) es)

-- all members together
sum-set : (ts : List ℕ) (i v : ℕ) → i < length ts → sum (set ts i v) + get_or ts i 0 ≡ sum ts + v
unfolding sum
sum-set [] i v h = omega arith
sum-set (t ∷ ts) zero v h = omega arith
sum-set (t ∷ ts) (suc i) v h = omega (arith, sum-set ts i v (omega arith))

pub sum_one : (ts : List ℕ) (e : Entry) → sum (totals_after ts e) + refund_paid ts e ≡ sum ts + fee_taken ts e
sum_one ts e = go _ refl
  where
    go : (b : Bool) → ltb e.member (length ts) ≡ b → sum (totals_after ts e) + refund_paid ts e ≡ sum ts + fee_taken ts e
    go true h =
        rw (inside-after ts e h) (omega (arith, inside ts e h, sum-set ts e.member (outcome ts e).total (ltb-true _ _ h)))
    go false h = rw (outside-after ts e h, (outside ts e h).0, (outside ts e h).1)

sum-total : (ts : List ℕ) (es : List Entry) → sum (through ts es) + all_refunds ts es ≡ sum ts + all_fees ts es
unfolding through all_refunds all_fees
sum-total ts [] = refl
sum-total ts (e ∷ es) = omega (arith, sum_one ts e, sum-total (totals_after ts e) es)

-- from zero
none_yet : (n k : ℕ) → ◌≡◌ {A = ℕ} (get_or (replicate n 0) k 0) 0
none_yet zero k = refl
none_yet (suc n) zero = refl
none_yet (suc n) (suc k) = none_yet n k

pub sum_zeros : (n : ℕ) → sum (replicate n 0) ≡ 0
unfolding sum
sum_zeros zero = refl
sum_zeros (suc n) = omega (arith, sum_zeros n)

module _ (n : ℕ) (es : List Entry) where
  pub member-total : (k : ℕ) → get_or (through (replicate n 0) es) k 0 + refunds_of k (replicate n 0) es ≡ fees_of k (replicate n 0) es
  member-total k = omega (arith, total k (replicate n 0) es, none_yet n k)

  pub all-totals : sum (through (replicate n 0) es) + all_refunds (replicate n 0) es ≡ all_fees (replicate n 0) es
  all-totals = omega (arith, sum-total (replicate n 0) es, sum_zeros n)
