-- Which byte is wrong, for every rule that takes just the well-formed runs and never gets stuck.
--     offset-is       the bytes kept are the offset that the order speaks of
--     offset-one      two numbers with `OffsetIs` are the same
--     offset-formed   a well-formed run is kept to its end
--     points, unpointed, one_place     an answer's offset, and that there is one only
-- Assumes nothing.
use mathlib.Core.Path.{◌≡◌, refl, sym, ap, ◌∙◌}
use mathlib.Core.Bool.{Bool, true, false≢true}
use mathlib.Core.Logic.{⊎_elim}
use mathlib.Core.List.{List, [], ◌∷◌, ◌++◌}
use Prim.Native.Nat.{ℕ, zero, suc, ◌≤◌, ◌<◌}
use native.Mathlib.Omega.{arith}
use lib.ListN.{length, take, drop}
use Rattle.numbers.specs.Numbers.{Bytes}
use Rattle.numbers.proofs.RunLaws.{append-bytes}
use Rattle.numbers.proofs.NumberLaws.{take-bytes, drop-bytes, le-or-lt, eq-or-not}
use Rattle.offsets.specs.Rules.{Rule, takes, reach}
use Rattle.offsets.specs.Offsets.{Begins, OffsetIs, Points}
use Rattle.offsets.proofs.RuleLaws.{Lives, reach-le, reach-good, reach-bad, reach-whole}

-- a rule that takes just the well-formed runs
pub record Rules (formed : List ℕ → Bool) (r : Rule) : Type 0 where
  pub lives : Lives r
  pub formed-by : (s : List ℕ) → Bytes s → takes r s ≡ true → formed s ≡ true
  pub taken-by : (s : List ℕ) → Bytes s → formed s ≡ true → takes r s ≡ true

module _ (formed : List ℕ → Bool) where
  module _ (r : Rule) (rules : Rules formed r) (s : List ℕ) (b : Bytes s) where
    pub offset-is : OffsetIs formed s (reach r s)
    unfolding Begins
    offset-is =
        let p = reach r s in
        let g = reach-good r s rules.lives b in
        record {
          there = reach-le r s;
          good = (g.0, g.1, rules.formed-by (take p s ++ g.0) (append-bytes (take p s) g.0 (take-bytes p s b) g.1) g.2);
          bad = λ l w.
              false≢true
              (sym (reach-bad r s w.0 l)
              ∙ rules.taken-by (take (suc p) s ++ w.0) (append-bytes (take (suc p) s) w.0 (take-bytes (suc p) s b) w.1) w.2);
        }

    pub offset-formed : formed s ≡ true → reach r s ≡ length s
    offset-formed h = reach-whole r s (rules.taken-by s b h)

  -- ---- there is one only

  module _ (s : List ℕ) where
    -- what begins a longer beginning begins
    begins-less : (p q : ℕ) → Bytes s → p ≤ q → Begins formed (take q s) → Begins formed (take p s)
    unfolding Begins
    begins-less p q b h w =
        let e : take p s ++ (drop p (take q s) ++ w.0) ≡ take q s ++ w.0 = more p q s w.0 h in (
          drop p (take q s) ++ w.0,
          append-bytes (drop p (take q s)) w.0 (drop-bytes p (take q s) (take-bytes q s b)) w.1,
          rw e w.2,
        )
      where
        more : (p q : ℕ) (s w : List ℕ) → p ≤ q → take p s ++ (drop p (take q s) ++ w) ≡ take q s ++ w
        more zero q s w h = refl
        more (suc p) zero s w h = absurd (omega arith)
        more (suc p) (suc q) [] w h = refl
        more (suc p) (suc q) (x ∷ s) w h = ap {B = List ℕ} (λ r. x ∷ r) (more p q s w (omega arith))

    not-below : (p q : ℕ) → Bytes s → OffsetIs formed s p → OffsetIs formed s q → p < q → ⊥
    not-below p q b f g h = f.bad (omega (arith, g.there)) (begins-less (suc p) q b (omega arith) g.good)

    pub offset-one : (p q : ℕ) → Bytes s → OffsetIs formed s p → OffsetIs formed s q → p ≡ q
    offset-one p q b f g =
        ⊎_elim (λ h. ⊎_elim (λ k. omega arith) (λ k. absurd (not-below p q b f g k)) (le-or-lt q p)) (λ h. absurd (not-below q p b g f h)) (le-or-lt p q)

    -- ---- an answer's offset

    pub points : (r : Rule) → Rules formed r → Points formed s 2 (reach r s)
    points r rules = record { wrong = λ b _. offset-is r rules s b; none = λ h. absurd (h refl) }

    pub unpointed : {k : ℕ} → (k ≡ 2 → ⊥) → Points formed s k 0
    unpointed h = record { wrong = λ _ e. absurd (h e); none = λ _. refl }

    pub one_place : {k p q : ℕ} → Bytes s → Points formed s k p → Points formed s k q → p ≡ q
    one_place {k} {p} {q} b f g =
        ⊎_elim (λ e. offset-one p q b (f.wrong b e) (g.wrong b e)) (λ n. f.none n ∙ sym (g.none n)) (eq-or-not k 2)
