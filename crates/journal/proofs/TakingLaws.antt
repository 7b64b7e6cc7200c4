-- Laws of the takings, added up total by total.
--     There, there-is, no-takings    M totals in a run, or OutOfRange
--     large-stops, small-goes, small-ends    a turn: a total above the limit; one inside it; no more
-- Assumes nothing.
use mathlib.Core.Path.{◌≡◌, sym, ap, ◌∙◌}
use mathlib.Core.Bool.{true, false, not}
use mathlib.Core.List.{List, ◌∷◌}
use Rattle.std.specs.Prelude.{Ok, Err}
use Prim.Native.Nat.{ℕ, ◌+◌, ◌-◌, ◌*◌, ◌≤◌, ◌<◌}
use native.Mathlib.Nat.{add-zero}
use lib.ListN.{length, drop}
use borrow.Author.Tests.{eqb-true, le-leb, lt-leb}
use Rattle.numbers.specs.Words.{◌and◌}
use Rattle.numbers.specs.Numbers.{num}
use Rattle.numbers.specs.Cells.{cells}
use Rattle.numbers.proofs.WordLaws.{if-true, if-false, and_both}
use Rattle.numbers.proofs.NumberLaws.{num-drop, within_both}
use Rattle.numbers.proofs.CellLaws.{cells-next, cells-none}
use Rattle.layout.specs.Layout.{total_of}
use Rattle.safety.specs.Money.{sum}
use Rattle.journal.specs.declared.refusal.JournalRefusal.TheVariants as refused
use Rattle.journal.specs.Calls.{totals_there, all_small, takings_of}

pub record There (M : ℕ) (totals : List ℕ) : Type 0 where
  pub is : totals_there M totals ≡ true
  pub few : M ≤ 4096
  pub some : 1 ≤ M
  pub long : length totals ≡ 8 * M

module _ (M : ℕ) (totals : List ℕ) where
  pub there-is : totals_there M totals ≡ true → There M totals
  unfolding totals_there
  there-is e =
      let p = and_both _ _ e in
      let w = within_both 1 4096 M p.0 in
      record { is = e; few = w.1; some = w.0; long = eqb-true _ _ p.1 }

  pub no-takings : totals_there M totals ≡ false → takings_of M totals ≡ Err refused.OutOfRange
  unfolding takings_of
  no-takings e = if-true _ _ _ (ap not e)

  -- what is left behind the first i
  abbrev rest : ℕ → List ℕ
  rest i = cells 8 total_of (M - i) (drop (8 * i) totals)

  rest-next : (i t : ℕ) → i < M → t ≡ num 8 (8 * i) totals → rest i ≡ t ∷ rest (i + 1)
  rest-next i t h p =
      cells-next 8 total_of M totals i t h (p ∙ sym (num-drop 8 (8 * i) 0 totals ∙ ap (λ (k : ℕ). num 8 k totals) (add-zero (8 * i))))

  pub large-stops : (i t : ℕ) → There M totals → i < M → t ≡ num 8 (8 * i) totals → 1000000000 < t
      → all_small (cells 8 total_of M totals) ≡ all_small (rest i) → takings_of M totals ≡ Err refused.OutOfRange
  unfolding takings_of all_small ◌and◌
  large-stops i t z h p l e =
      let s : all_small (rest i) ≡ false = ap all_small (rest-next i t h p) ∙ rw (lt-leb t 1000000000 l) in
      if-false _ _ _ (ap not z.is) ∙ if-true _ _ _ (ap not (e ∙ s))

  pub small-goes : (i t : ℕ) → i < M → t ≡ num 8 (8 * i) totals → t ≤ 1000000000
      → (all_small (rest i) ≡ all_small (rest (i + 1))) × (sum (rest i) ≡ t + sum (rest (i + 1)))
  unfolding all_small sum ◌and◌
  small-goes i t h p l =
      let e = rest-next i t h p in
      (ap all_small e ∙ rw (le-leb t 1000000000 l), ap sum e)

  pub small-ends : (i cents : ℕ) → There M totals → M ≤ i → all_small (cells 8 total_of M totals) ≡ all_small (rest i)
      → sum (cells 8 total_of M totals) ≡ cents + sum (rest i) → Ok cents ≡ takings_of M totals
  unfolding takings_of all_small sum
  small-ends i cents z h a s =
      let n = cells-none 8 total_of M (drop (8 * i) totals) i h in
      let c : sum (cells 8 total_of M totals) ≡ cents = s ∙ ap (λ (ts : List ℕ). cents + sum ts) n ∙ add-zero cents in
      (λ k. Ok (sym c k))
      ∙ sym (if-false _ _ _ (ap not z.is) ∙ if-false _ _ _ (ap not (a ∙ ap all_small n)))
