-- Laws for the look that compares an entry only with the nearest one of its client.
--     rises-true, rises-false    all pairs rise; one pair does not
--     rises-back                 where the entries are rising, all pairs rise
--     follows-all, follows-any   no entry breaks with e; one does
--     grown-none, grown-over     the entries below i rise, and so does entry i, which has none of its client before it, or rises over the nearest
-- Assumes nothing.
use mathlib.Core.Path.{◌≡◌, refl, sym, ◌∙◌, ap}
use mathlib.Core.List.{List}
use mathlib.Core.Bool.{true, false, false≢true}
use mathlib.Core.Logic.{⊎_elim}
use Prim.Native.Nat.{ℕ, zero, suc, ◌+◌, ◌*◌, ◌<◌, ◌≤◌}
use native.Mathlib.Omega.{arith}
use native.Mathlib.Nat.{add-zero, sub-zero}
use lib.Dec.{leb}
use lib.ListN.{drop}
use borrow.Author.Tests.{le-leb, lt-leb}
use Rattle.numbers.specs.Words.{◌and◌}
use Rattle.numbers.specs.Numbers.{num}
use Rattle.numbers.proofs.NumberLaws.{num-drop, eq-or-not, le-or-lt}
use Rattle.numbers.proofs.WordLaws.{and-false}
use Rattle.entries.specs.Entries.{entry_of, entries}
use Rattle.entries.specs.Rising.{breaks_at, follows, rising}
use Rattle.entries.specs.declared.Entry.{Entry}
use Rattle.entries.proofs.RisingLaws.{from_at, from_next, from_end, rising-next, follows_next, follows-stop, other-client, same-client}
use Rattle.entries.proofs.ChainLaws.{NoneOf}

-- the entry at place p, its client and its request number
abbrev pub at : List ℕ → ℕ → Entry
at s p = entry_of (drop (32 * p) s)

abbrev pub client_at : List ℕ → ℕ → ℕ
client_at s p = num 8 (32 * p) s

abbrev pub request_at : List ℕ → ℕ → ℕ
request_at s p = num 8 (32 * p + 8) s

-- the entries below i rise
abbrev pub Rises : List ℕ → ℕ → Type 0
Rises s i = (p q : ℕ) → p < q → q < i → client_at s p ≡ client_at s q → request_at s p < request_at s q

client-is : (s : List ℕ) (p : ℕ) → (at s p).client ≡ client_at s p
unfolding entry_of
client-is s p = rw (num-drop 8 (32 * p) 0 s, add-zero)

request-is : (s : List ℕ) (p : ℕ) → (at s p).request ≡ request_at s p
unfolding entry_of
request-is s p = num-drop 8 (32 * p) 8 s

breaks-same : (s : List ℕ) (p q : ℕ) → client_at s p ≡ client_at s q → breaks_at (at s p) (at s q) ≡ leb (request_at s q) (request_at s p)
breaks-same s p q e = sym (same-client (at s p) s (32 * q) refl refl (sym e ∙ sym (client-is s p))) ∙ ap (λ (z : ℕ). leb (request_at s q) z) (request-is s p)

pair-rises : (s : List ℕ) (p q : ℕ) → (client_at s p ≡ client_at s q → request_at s p < request_at s q) → breaks_at (at s p) (at s q) ≡ false
pair-rises s p q h =
    ⊎_elim (λ e. breaks-same s p q e ∙ lt-leb (request_at s q) (request_at s p) (h e))
    (λ n. sym (other-client (at s p) s (32 * q) refl (λ z. n (sym (z ∙ client-is s p)))))
    (eq-or-not (client_at s p) (client_at s q))

pub follows-all : (e : Entry) (k : ℕ) (s : List ℕ) (n j : ℕ) → j + n ≡ k → ((q : ℕ) → j ≤ q → q < k → breaks_at e (at s q) ≡ false) → follows e (from_at k s j) ≡ true
unfolding follows
follows-all e k s zero j h f = let z : j ≡ k = omega arith in rw (z, from_end)
follows-all e k s (suc n) j h f =
    follows_next e k s j (omega arith) (f j (omega arith) (omega arith)) ∙ follows-all e k s n (j + 1) (omega arith) (λ q l u. f q (omega arith) u)

rising-all : (k : ℕ) (s : List ℕ) (n i : ℕ) → i + n ≡ k → Rises s k → rising (from_at k s i) ≡ true
unfolding rising ◌and◌
rising-all k s zero i h f = let z : i ≡ k = omega arith in rw (z, from_end)
rising-all k s (suc n) i h f =
    let g = follows-all (at s i) k s n (i + 1) (omega arith) (λ q l u. pair-rises s i q (λ e. f i q (omega arith) u e)) in
    rw (rising-next k s i (omega arith), g, rising-all k s n (i + 1) (omega arith) f)

pub rises-true : (k : ℕ) (s : List ℕ) → Rises s k → rising (entries k s) ≡ true
rises-true k s f = rw (sub-zero) at (rising-all k s k 0 (omega arith) f)

pub follows-any : (e : Entry) (k : ℕ) (s : List ℕ) (n j q : ℕ) → j + n ≡ k → j ≤ q → q < k → breaks_at e (at s q) ≡ true → follows e (from_at k s j) ≡ false
unfolding follows
follows-any e k s zero j q h l u b = absurd (omega arith)
follows-any e k s (suc n) j q h l u b =
    ⊎_elim (λ (z : j ≡ q). follows-stop e k s j (omega arith) (rw z b))
    (λ (z : j ≡ q → ⊥). rw (from_next k s j (omega arith)) (and-false _ _ (follows-any e k s n (j + 1) q (omega arith) (omega (arith, z)) u b)))
    (eq-or-not j q)

rising-any : (k : ℕ) (s : List ℕ) (n i p q : ℕ) → i + n ≡ k → i ≤ p → p < q → q < k → breaks_at (at s p) (at s q) ≡ true → rising (from_at k s i) ≡ false
unfolding rising ◌and◌
rising-any k s zero i p q h l m u b = absurd (omega arith)
rising-any k s (suc n) i p q h l m u b =
    ⊎_elim (λ (z : i ≡ p). rw (rising-next k s i (omega arith), follows-any (at s i) k s n (i + 1) q (omega arith) (omega arith) u (rw z b)))
    (λ (z : i ≡ p → ⊥). rw (rising-next k s i (omega arith)) (and-false (follows (at s i) (from_at k s (i + 1))) (rising (from_at k s (i + 1))) (rising-any k s n (i + 1) p q (omega arith) (omega (arith, z)) m u b)))
    (eq-or-not i p)

pub rises-false : (k : ℕ) (s : List ℕ) (p q : ℕ) → p < q → q < k → client_at s p ≡ client_at s q → request_at s q ≤ request_at s p → rising (entries k s) ≡ false
rises-false k s p q m u e l =
    rw (sub-zero) at (rising-any k s k 0 p q (omega arith) (omega arith) m u (breaks-same s p q e ∙ le-leb (request_at s q) (request_at s p) l))

pub rises-back : (k : ℕ) (s : List ℕ) → rising (entries k s) ≡ true → Rises s k
rises-back k s h p q m u e =
    ⊎_elim (λ (l : request_at s q ≤ request_at s p). absurd (false≢true (sym (rises-false k s p q m u e l) ∙ h)))
    (λ (l : request_at s p < request_at s q). l)
    (le-or-lt (request_at s q) (request_at s p))

-- one entry more, over all entries of its client
grown : (s : List ℕ) (i : ℕ) → Rises s i → ((p : ℕ) → p < i → client_at s p ≡ client_at s i → request_at s p < request_at s i) → Rises s (i + 1)
grown s i f g p q m u e =
    ⊎_elim (λ (z : q ≡ i). rw z (g p (omega arith) (rw z at e))) (λ (z : q ≡ i → ⊥). f p q m (omega (arith, z)) e) (eq-or-not q i)

-- where none of its client stands before it
pub grown-none : (s : List ℕ) (i : ℕ) → Rises s i → NoneOf (client_at s) (client_at s i) 0 i → Rises s (i + 1)
grown-none s i f n = grown s i f (λ p u e. absurd (n p (omega arith) u e))

-- where it rises over the nearest of its client
pub grown-over : (s : List ℕ) (i j : ℕ) → Rises s i → j < i → NoneOf (client_at s) (client_at s i) (j + 1) i → client_at s j ≡ client_at s i → request_at s j < request_at s i → Rises s (i + 1)
grown-over s i j f l n e r =
    grown s i f
    (λ p u w.
    ⊎_elim (λ (z : p ≡ j). rw z r)
    (λ (z : p ≡ j → ⊥).
    ⊎_elim (λ (y : j ≤ p). absurd (n p (omega (arith, z)) u w)) (λ (y : p < j). omega (arith, f p j y l (w ∙ sym e), r)) (le-or-lt j p))
    (eq-or-not p j))
