-- What the table holds of a client's latest request.
--     held-waiting, held-answered     the ways out of `held`
--     no-row, row-there               of a client without a row, and with one
--     latest-same                     rows that say the same
--     Ruled, kept-ruled               a reply that is kept is of an outcome of the fee rules, 1 to 6, whatever the row is
--     reply-ruled                     so is a reply that is told
-- Assumes nothing.
use mathlib.Core.Path.{◌≡◌, refl, sym, ap, ◌∙◌, subst}
use mathlib.Core.Bool.{Bool, true, false, not}
use mathlib.Core.Option.{Option, none, some}
use Prim.Native.Nat.{ℕ, ◌≤◌}
use borrow.Author.Tests.{not-true, not-false}
use Rattle.numbers.specs.Numbers.{within}
use Rattle.numbers.proofs.NumberLaws.{within_both}
use Rattle.numbers.proofs.WordLaws.{split, if-true, if-false}
use Rattle.fees.specs.Fees.{gives}
use Rattle.fees.specs.declared.Outcome.{Outcome}
use Rattle.client_table.specs.declared.Latest.{Latest}
use Rattle.client_table.specs.declared.Latest.TheVariants.{Nothing, Waiting, Answered}
use Rattle.client_table.specs.Latest.{kept_of, latest_by, held_of}

module _ (request code total : ℕ) (b : Bool) (p : b ≡ within 1 6 code) where
  pub held-waiting : not b ≡ true → Waiting request ≡ held_of request code total
  unfolding kept_of
  held-waiting q = ap (latest_by true request) (sym (if-false _ _ _ (sym p ∙ not-true b q)))

  pub held-answered : not b ≡ false → Answered request (gives code total) ≡ held_of request code total
  unfolding kept_of
  held-answered q = ap (latest_by true request) (sym (if-true _ _ _ (sym p ∙ not-false b q)))

module _ (there : Bool) (request : ℕ) (kept : Option Outcome) where
  pub no-row : not there ≡ true → Nothing ≡ latest_by there request kept
  no-row q = ap (λ (b : Bool). latest_by b request kept) (sym (not-true there q))

  pub row-there : (l : Latest) → not there ≡ false → l ≡ latest_by true request kept → l ≡ latest_by there request kept
  row-there l q p = p ∙ ap (λ (b : Bool). latest_by b request kept) (sym (not-false there q))

-- of a client with a row, its number and its reply are all that counts
pub latest-same : (there there' : Bool) (request request' : ℕ) (kept kept' : Option Outcome) → there ≡ there'
    → (there ≡ true → (request ≡ request') × (kept ≡ kept')) → latest_by there request kept ≡ latest_by there' request' kept'
latest-same there there' request request' kept kept' p q = go there q ∙ ap (λ (b : Bool). latest_by b request' kept') p
  where
    go : (b : Bool) → (b ≡ true → (request ≡ request') × (kept ≡ kept')) → latest_by b request kept ≡ latest_by b request' kept'
    go false h = refl
    go true h = λ i. latest_by true ((h refl).0 i) ((h refl).1 i)

-- of a reply, if one is kept
abbrev pub Ruled : Option Outcome → Type 0
Ruled none = Unit
Ruled (some o) = (1 ≤ o.code) × (o.code ≤ 6)

pub kept-ruled : (code total : ℕ) → Ruled (kept_of code total)
unfolding kept_of
kept-ruled code total = split Ruled (within 1 6 code) _ _ (λ t. within_both 1 6 code t) (λ _. tt)

-- of what is told
abbrev Tells : Latest → Type 0
Tells Nothing = Unit
Tells (Waiting request) = Unit
Tells (Answered request o) = (1 ≤ o.code) × (o.code ≤ 6)

tells : (there : Bool) (request : ℕ) (k : Option Outcome) → Ruled k → Tells (latest_by there request k)
tells false request k r = tt
tells true request none r = tt
tells true request (some o) r = r

pub reply-ruled : (there : Bool) (request : ℕ) (k : Option Outcome) → Ruled k → {number : ℕ} {o : Outcome}
    → latest_by there request k ≡ Answered number o → (1 ≤ o.code) × (o.code ≤ 6)
reply-ruled there request k r p = subst Tells p (tells there request k r)
