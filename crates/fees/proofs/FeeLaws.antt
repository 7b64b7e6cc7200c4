-- The fee rules, way by way.
--     fee-past, fee-taken, refund-past, refund-paid   the outcome under what the tests show
--     inside, outside                                 an entry on a run of totals, by where its member stands
--     fee-small                                       a total that was inside the limit stays inside it
-- Assumes nothing.
use mathlib.Core.Path.{◌≡◌, ap, sym, ◌∙◌}
use mathlib.Core.List.{List, ◌++◌}
use Prim.Native.Nat.{ℕ, ◌+◌, ◌-◌, ◌*◌, ◌≤◌, ◌<◌}
use native.Mathlib.Omega.{arith}
use lib.Dec.{ltb}
use lib.ListN.{length, take, drop}
use borrow.Author.Tests.{lt-ltb, le-ltb, ltb-false}
use Rattle.numbers.specs.Numbers.{big, over, put_at}
use Rattle.numbers.proofs.WordLaws.{if-true, if-false, split}
use Rattle.numbers.proofs.RunLaws.{put-part}
use Rattle.entries.specs.Entries.{operation_of}
use Rattle.entries.specs.declared.Entry.{Entry}
use Rattle.entries.specs.declared.Operation.{Operation}
use Rattle.entries.specs.declared.Operation.TheVariants.{Fee, Refund, Ask}
use Rattle.fees.specs.Fees.{gives, rule, total_at, outcome_on, total_bytes_after}
use Rattle.fees.specs.declared.Outcome.{Outcome}

module _ (t cents : ℕ) where
  pub fee-past : 1000000000 < t + cents → gives 5 t ≡ rule t Fee cents
  unfolding rule
  fee-past h = sym (if-true _ _ _ (lt-ltb _ _ h))

  pub fee-taken : t + cents ≤ 1000000000 → gives 1 (t + cents) ≡ rule t Fee cents
  unfolding rule
  fee-taken h = sym (if-false _ _ _ (le-ltb _ _ h))

  pub refund-past : t < cents → gives 6 t ≡ rule t Refund cents
  unfolding rule
  refund-past h = sym (if-true _ _ _ (lt-ltb _ _ h))

  pub refund-paid : cents ≤ t → gives 2 (t - cents) ≡ rule t Refund cents
  unfolding rule
  refund-paid h = sym (if-false _ _ _ (le-ltb _ _ h))

  small : Outcome → Type 0
  small o = o.total ≤ 1000000000

  pub fee-small : (op : Operation) → t ≤ 1000000000 → (rule t op cents).total ≤ 1000000000
  unfolding rule small
  fee-small Fee h = split small (ltb 1000000000 (t + cents)) (gives 5 t) (gives 1 (t + cents)) (λ p. h) (λ p. ltb-false 1000000000 (t + cents) p)
  fee-small Refund h = split small (ltb t cents) (gives 6 t) (gives 2 (t - cents)) (λ p. h) (λ p. omega arith)
  fee-small Ask h = h

module _ (M : ℕ) (s : List ℕ) (e : Entry) where
  pub inside : (x : ℕ) (op : Operation) (o : Outcome) (part : List ℕ) → e.member < M → x ≡ total_at e.member s → op ≡ operation_of e.operation
      → o ≡ rule x op e.cents → part ≡ over (big 8 o.total) (take (length s - 8 * e.member) (drop (8 * e.member) s))
      → (o ≡ outcome_on M s e) × (take (8 * e.member) s ++ (part ++ drop (length s - 8 * e.member) (drop (8 * e.member) s)) ≡ total_bytes_after M s e)
  unfolding outcome_on total_bytes_after
  inside x op o part h p k q w =
      let r : o ≡ outcome_on M s e = rw (q, p, k) (sym (if-true _ _ _ (lt-ltb _ _ h))) in (
        r,
        put-part s (big 8 o.total) (8 * e.member) w
            ∙ ap (λ (z : Outcome). put_at (8 * e.member) (big 8 z.total) s) r
            ∙ sym (if-true _ _ _ (lt-ltb _ _ h)),
      )

  pub outside : M ≤ e.member → (gives 4 0 ≡ outcome_on M s e) × (s ≡ total_bytes_after M s e)
  unfolding outcome_on total_bytes_after
  outside h = (sym (if-false _ _ _ (le-ltb _ _ h)), sym (if-false _ _ _ (le-ltb _ _ h)))
