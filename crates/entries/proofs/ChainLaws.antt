-- Laws of the chains by which a place of a client is found. `who` has the client of each place, and the places below i are in the chains.
--     linked-start   nothing is in them
--     sought-start   the look for a client starts at the latest place of its remainder
--     sought-next    and goes on, at a place of another client, to the one before of that remainder
--     linked-next    one place more
-- Assumes nothing.
use mathlib.Core.Path.{◌≡◌, refl, sym, ◌∙◌}
use mathlib.Core.Logic.{⊎_elim}
use Prim.Native.Nat.{ℕ, zero, suc, ◌+◌, ◌-◌, ◌<◌, ◌≤◌}
use native.Mathlib.Omega.{arith}
use lib.ListN.{length, get_or, length-set, length-replicate, get_or-replicate}
use lib.Seq.{get_or-set_same, get_or-set_other}
use Rattle.std.specs.Prelude.{Option, Some, None}
use Rattle.numbers.proofs.NumberLaws.{eq-or-not, le-or-lt}
use Rattle.entries.specs.Chains.{entry_held, chain_of, no_chains, latest_in_chain, earlier_in_chain, chained}
use Rattle.entries.specs.declared.chains.Chains.{Chains}

-- what a place holds: one more than an entry's number, or 0
abbrev pub held : Option ℕ → ℕ
held None = 0
held (Some i) = suc i

held-place : (x : ℕ) → held (entry_held x) ≡ x
held-place zero = refl
held-place (suc i) = refl

-- no place from j on, below i, is of client c
abbrev pub NoneOf : (ℕ → ℕ) → ℕ → ℕ → ℕ → Type 0
NoneOf who c j i = (p : ℕ) → j ≤ p → p < i → who p ≡ c → ⊥

-- x is one more than the latest place below i of chain h, or 0 where there is none
pub record Latest (who : ℕ → ℕ) (h i x : ℕ) : Type 0 where
  pub low : x ≤ i
  pub none : (p : ℕ) → x ≤ p → p < i → chain_of (who p) ≡ h → ⊥
  pub ends : 0 < x → chain_of (who (x - 1)) ≡ h

-- the chains of the places below i
pub record Linked (who : ℕ → ℕ) (t : Chains) (i : ℕ) : Type 0 where
  pub chains : length t.latest ≡ 1021
  pub places : length t.earlier ≡ 4096
  pub heads : (h : ℕ) → h < 1021 → Latest who h i (get_or t.latest h 0)
  pub links : (m : ℕ) → m < i → Latest who (chain_of (who m)) m (get_or t.earlier m 0)

-- below i client c is sought, and has been as far down as j, which is one more than a place of its chain
pub record Sought (who : ℕ → ℕ) (c i j : ℕ) : Type 0 where
  pub low : j ≤ i
  pub none : NoneOf who c j i
  pub ends : 0 < j → chain_of (who (j - 1)) ≡ chain_of c

pub linked-start : (who : ℕ → ℕ) → Linked who no_chains 0
linked-start who =
    record {
      chains = length-replicate {A = ℕ} 1021 0;
      places = length-replicate {A = ℕ} 4096 0;
      heads = λ h u. rw (get_or-replicate {A = ℕ} 1021 h 0 0 u) (record { low = omega arith; none = λ p l m e. absurd (omega arith); ends = λ l. absurd (omega arith) });
      links = λ m u. absurd (omega arith);
    }

module _ (who : ℕ → ℕ) (t : Chains) (i : ℕ) (k : Linked who t i) where
  first : (c : ℕ) → Sought who c i (get_or t.latest (chain_of c) 0)
  first c =
      let l = k.heads (chain_of c) (omega arith) in
      record { low = l.low; none = λ p u v e. l.none p u v (rw e); ends = l.ends }

  pub sought-start : (c : ℕ) → Sought who c i (held (latest_in_chain c t))
  sought-start c = rw (held-place (get_or t.latest (chain_of c) 0)) (first c)

  further : (c j : ℕ) → 0 < j → Sought who c i j → (who (j - 1) ≡ c → ⊥) → Sought who c i (get_or t.earlier (j - 1) 0)
  further c j u s n =
      let l = k.links (j - 1) (omega arith) in
      record {
        low = omega arith;
        none = λ p v w e.
            ⊎_elim (λ (y : j ≤ p). s.none p y w e)
            (λ (y : p < j).
            ⊎_elim (λ (z : p ≡ j - 1). n (rw z at e)) (λ (z : p ≡ j - 1 → ⊥). l.none p v (omega (arith, z)) (rw e (sym (s.ends u)))) (eq-or-not p (j - 1)))
            (le-or-lt j p);
        ends = λ v. l.ends v ∙ s.ends u;
      }

  pub sought-next : (c j : ℕ) → Sought who c i (suc j) → (who j ≡ c → ⊥) → Sought who c i (held (earlier_in_chain j t))
  sought-next c j s n =
      let e : suc j - 1 ≡ j = omega arith in
      rw (held-place (get_or t.earlier j 0)) (rw e at (further c (suc j) (omega arith) s (rw e n)))

  grown : (h : ℕ) (x : ℕ) → (chain_of (who i) ≡ h → ⊥) → Latest who h i x → Latest who h (i + 1) x
  grown h x n l =
      record {
        low = omega arith;
        none = λ p u v e.
            ⊎_elim (λ (z : p ≡ i). n (rw z at e)) (λ (z : p ≡ i → ⊥). l.none p u (omega (arith, z)) e) (eq-or-not p i);
        ends = l.ends;
      }

  pub linked-next : i < 4096 → Linked who (chained i (who i) t) (i + 1)
  linked-next u =
      let c = chain_of (who i) in
      record {
        chains = length-set t.latest c (i + 1) ∙ k.chains;
        places = length-set t.earlier i (get_or t.latest c 0) ∙ k.places;
        heads = λ h v.
            ⊎_elim (λ (z : h ≡ c). rw (z, get_or-set_same t.latest c (i + 1) 0 (omega arith)) (record { low = omega arith; none = λ p l m e. absurd (omega arith); ends = λ l. let e : i + 1 - 1 ≡ i = omega arith in rw e }))
            (λ (z : h ≡ c → ⊥). rw (get_or-set_other t.latest c h (i + 1) 0 z) (grown h (get_or t.latest h 0) (λ y. z (sym y)) (k.heads h v)))
            (eq-or-not h c);
        links = λ m v.
            ⊎_elim (λ (z : m ≡ i). rw (z, get_or-set_same t.earlier i (get_or t.latest c 0) 0 (omega arith)) (k.heads c (omega arith)))
            (λ (z : m ≡ i → ⊥). rw (get_or-set_other t.earlier i m (get_or t.latest c 0) 0 z) (k.links m (omega (arith, z))))
            (eq-or-not m i);
      }
