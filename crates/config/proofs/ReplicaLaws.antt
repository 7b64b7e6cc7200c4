-- Laws of sets of replica ids, for every n. `ones` is what `u8::count_ones` gives (`lib.Count`).
--     quorums-meet     two sets of ids below n whose counts reach n / 2 + 1 have an id in common
--     share            the same of any two counts that together pass n
--     count-le         a set of ids below n has at most n
--     all-below, below_all     a set has only ids below n exactly where it is below 2 ^ n
--     members-count    the count is the length of the list of ids
--     count_low        whatever a set has besides, the ids below n that it has are those of its lowest n digits
--     count_none       none is in the empty set
--     below-quorums-meet   the same as quorums-meet for any two sets, of which only ids below n count
--     with_in, with-other      after `with_member s k`: k is in, and each other id is in as before
--     with-new, with-old       a new id raises the count by one; one that was in leaves the set as it was
--     with-lt          ids below n stay below n
--     another-in, another-out  after `with_another s own k`: who is in was in, or is k; own is out where it was
--     another-lt, another-count    ids below n stay below n; no count falls
--     or-with, one_bit `s | 1 << k` is `with_member s k`; `1 << k` is 2 ^ k at any width above k
-- Assumes nothing.
use mathlib.Core.Path.{◌≡◌, refl, sym, ap, ap₂, ◌∙◌, subst}
use mathlib.Core.Logic.{◌⊎◌, inl, inr}
use mathlib.Core.List.{[], ◌∷◌}
use Prim.Native.Nat.{ℕ, zero, suc, ◌+◌, ◌*◌, ◌/◌, ◌%◌, ◌^◌, ◌≤◌, ◌<◌, max}
use native.Mathlib.Nat.{le_refl, zero-lt-suc, mod-lt, div-one, pow-suc, pow-succ', div-div-eq-div-mul, div-lt_iff_lt-mul, div-add-mod', max-zero, mul-div_cancel, mul-mod_left, zero-div, mod-eq_of_lt}
use native.Mathlib.Omega.{arith}
use lib.Arith.{lt-one, bin_ind}
use lib.Pow.{pow_mono, pow_pos, field, mod-mod-pow}
use lib.Bits.{bit_or, or_step, or_zero_r, or_lt}
use lib.Count.{ones, ones_step, ones-le}
use lib.Dec.{eqb}
use lib.ListN.{length, length-append}
use mathlib.Core.Bool.{Bool, true, false}
use borrow.Author.Tests.{eq-eqb, ne_eqb, eqb-true, eqb-false}
use Rattle.numbers.specs.Words.{when◌then◌else◌}
use Rattle.numbers.proofs.WordLaws.{split}
use Rattle.config.specs.Replicas.{bit, Member, members, count_below, with_member, with_another, quorum_of}

two_pos : zero < 2
two_pos = zero-lt-suc 1

-- ---- digits

digit : (d : ℕ) → d < 2 → (d ≡ 0) ⊎ (d ≡ 1)
digit zero h = inl refl
digit (suc zero) h = inr refl
digit (suc (suc d)) h = absurd (omega arith)

pub bit-or : (s k : ℕ) → (bit s k ≡ 0) ⊎ Member k s
bit-or s k = digit (bit s k) (mod-lt (s / 2 ^ k) two_pos)

low : (s : ℕ) → (s % 2 ≡ 0) ⊎ (s % 2 ≡ 1)
low s = digit (s % 2) (mod-lt s two_pos)

pub bit-zero : (s : ℕ) → bit s 0 ≡ s % 2
bit-zero s = ap (λ (x : ℕ). x % 2) (div-one s)

pub bit-suc : (s k : ℕ) → bit s (suc k) ≡ bit (s / 2) k
bit-suc s k = ap (λ (x : ℕ). x % 2) (ap (λ (x : ℕ). s / x) (pow-succ' 2 k) ∙ sym (div-div-eq-div-mul s 2 (2 ^ k)))

half_lt : (n s : ℕ) → s < 2 ^ suc n → s / 2 < 2 ^ n
half_lt n s h = (div-lt_iff_lt-mul two_pos).1 (subst (λ (x : ℕ). s < x) (pow-suc 2 n) h)

dbl_lt : (n s : ℕ) → s / 2 < 2 ^ n → s < 2 ^ suc n
dbl_lt n s h = subst (λ (x : ℕ). s < x) (sym (pow-suc 2 n)) ((div-lt_iff_lt-mul two_pos).0 h)

-- ---- two large sets meet

pub record Shared (n s t : ℕ) : Type 0 where
  pub id : ℕ
  pub below : id < n
  pub left : Member id s
  pub right : Member id t

pub share : (n s t : ℕ) → s < 2 ^ n → t < 2 ^ n → n < ones s + ones t → Shared n s t
share zero s t hs ht h = absurd (omega (arith, ones-le 0 s hs, ones-le 0 t ht))
share (suc n) s t hs ht h = go (λ m. share n (s / 2) (t / 2) (half_lt n s hs) (half_lt n t ht) m) (low s) (low t)
  where
    next : Shared n (s / 2) (t / 2) → Shared (suc n) s t
    next r = record { id = suc r.id; below = omega (arith, r.below); left = bit-suc s r.id ∙ r.left; right = bit-suc t r.id ∙ r.right }

    go : (n < ones (s / 2) + ones (t / 2) → Shared n (s / 2) (t / 2)) → (s % 2 ≡ 0) ⊎ (s % 2 ≡ 1) → (t % 2 ≡ 0) ⊎ (t % 2 ≡ 1) → Shared (suc n) s t
    go rest (inl a) y = next (rest (omega (arith, ones_step s, ones_step t, mod-lt t two_pos)))
    go rest (inr a) (inl b) = next (rest (omega (arith, ones_step s, ones_step t)))
    go rest (inr a) (inr b) = record { id = 0; below = zero-lt-suc n; left = bit-zero s ∙ a; right = bit-zero t ∙ b }

pub quorums-meet : (n s t : ℕ) → s < 2 ^ n → t < 2 ^ n → quorum_of n ≤ ones s → quorum_of n ≤ ones t → Shared n s t
quorums-meet n s t hs ht ls lt = share n s t hs ht (omega (arith, div-add-mod' n 2, mod-lt n two_pos))

pub count-le : (n s : ℕ) → s < 2 ^ n → ones s ≤ n
count-le = ones-le

-- ---- one id more

-- the shifted bit, as the machine has it at w bits
pub one_bit : (w k : ℕ) → k < w → 1 * 2 ^ k % 2 ^ w ≡ 2 ^ k
one_bit w k h = ap (λ (x : ℕ). x % 2 ^ w) (omega arith) ∙ mod-eq_of_lt (omega (arith, pow_mono h, pow-suc 2 k, pow_pos k))

-- the digits of 2 ^ (k + 1)
pow-half : (k : ℕ) → 2 ^ suc k / 2 ≡ 2 ^ k
pow-half k = ap (λ (x : ℕ). x / 2) (pow-suc 2 k) ∙ mul-div_cancel (2 ^ k) two_pos

pow_even : (k : ℕ) → 2 ^ suc k % 2 ≡ 0
pow_even k = ap (λ (x : ℕ). x % 2) (pow-suc 2 k) ∙ mul-mod_left (2 ^ k) 2

or-suc : (s k : ℕ) → bit_or s (2 ^ suc k) ≡ bit_or (s / 2) (2 ^ k) * 2 + s % 2
or-suc s k = or_step s (2 ^ suc k) ∙ ap₂ (λ (x y : ℕ). bit_or (s / 2) x * 2 + max (s % 2) y) (pow-half k) (pow_even k) ∙ ap (λ (y : ℕ). bit_or (s / 2) (2 ^ k) * 2 + y) (max-zero (s % 2))

or-one : (s d : ℕ) → s % 2 ≡ d → bit_or s 1 ≡ s / 2 * 2 + max d 1
or-one s d e = or_step s 1 ∙ ap₂ (λ (x y : ℕ). x * 2 + max y 1) (or_zero_r (s / 2)) e

or-present : (k s : ℕ) → Member k s → bit_or s (2 ^ k) ≡ s
or-present zero s h =
    let e : s % 2 ≡ 1 = sym (bit-zero s) ∙ h in
    or-one s 1 e ∙ omega (arith, div-add-mod' s 2)
or-present (suc k) s h = or-suc s k ∙ ap (λ (x : ℕ). x * 2 + s % 2) (or-present k (s / 2) (sym (bit-suc s k) ∙ h)) ∙ div-add-mod' s 2

or-absent : (k s : ℕ) → bit s k ≡ 0 → bit_or s (2 ^ k) ≡ s + 2 ^ k
or-absent zero s h =
    let e : s % 2 ≡ 0 = sym (bit-zero s) ∙ h in
    or-one s 0 e ∙ omega (arith, div-add-mod' s 2)
or-absent (suc k) s h = or-suc s k ∙ ap (λ (x : ℕ). x * 2 + s % 2) (or-absent k (s / 2) (sym (bit-suc s k) ∙ h)) ∙ omega (arith, div-add-mod' s 2, pow-suc 2 k)

pub with-old : (s k : ℕ) → Member k s → with_member s k ≡ s
unfolding with_member when◌then◌else◌
with-old s k h = simp (eq-eqb (bit s k) 1 h)

pub with-absent : (s k : ℕ) → bit s k ≡ 0 → with_member s k ≡ s + 2 ^ k
unfolding with_member when◌then◌else◌
with-absent s k h = simp (ne_eqb (bit s k) 1 (λ e. omega (arith, h, e)))

pub or-with : (s k : ℕ) → bit_or s (2 ^ k) ≡ with_member s k
or-with s k = go (bit-or s k)
  where
    go : (bit s k ≡ 0) ⊎ Member k s → bit_or s (2 ^ k) ≡ with_member s k
    go (inl a) = or-absent k s a ∙ sym (with-absent s k a)
    go (inr p) = or-present k s p ∙ sym (with-old s k p)

pub with-lt : (n s k : ℕ) → s < 2 ^ n → k < n → with_member s k < 2 ^ n
with-lt n s k hs hk =
    subst (λ (x : ℕ). x < 2 ^ n) (or-with s k)
    (or_lt n s (2 ^ k) hs (omega (arith, pow_mono hk, pow-suc 2 k, pow_pos k)))

-- the digits of s + 2 ^ k, where s lacks k
plus-half : (s k : ℕ) → (s + 2 ^ suc k) / 2 ≡ s / 2 + 2 ^ k
plus-half s k = omega (arith, pow-suc 2 k, div-add-mod' s 2, mod-lt s two_pos, div-add-mod' (s + 2 ^ suc k) 2, mod-lt (s + 2 ^ suc k) two_pos)

plus-low : (s k : ℕ) → (s + 2 ^ suc k) % 2 ≡ s % 2
plus-low s k = omega (arith, plus-half s k, pow-suc 2 k, div-add-mod' s 2, div-add-mod' (s + 2 ^ suc k) 2)

one-half : (s : ℕ) → s % 2 ≡ 0 → (s + 1) / 2 ≡ s / 2
one-half s h = omega (arith, div-add-mod' s 2, div-add-mod' (s + 1) 2, mod-lt (s + 1) two_pos)

one-low : (s : ℕ) → s % 2 ≡ 0 → (s + 1) % 2 ≡ 1
one-low s h = omega (arith, one-half s h, div-add-mod' s 2, div-add-mod' (s + 1) 2)

plus-in : (k s : ℕ) → bit s k ≡ 0 → Member k (s + 2 ^ k)
plus-in zero s h = bit-zero (s + 1) ∙ one-low s (sym (bit-zero s) ∙ h)
plus-in (suc k) s h = bit-suc (s + 2 ^ suc k) k ∙ ap (λ (x : ℕ). bit x k) (plus-half s k) ∙ plus-in k (s / 2) (sym (bit-suc s k) ∙ h)

plus-other : (k j s : ℕ) → bit s k ≡ 0 → (j ≡ k → ⊥) → bit (s + 2 ^ k) j ≡ bit s j
plus-other zero zero s h ne = absurd (ne refl)
plus-other zero (suc j) s h ne = bit-suc (s + 1) j ∙ ap (λ (x : ℕ). bit x j) (one-half s (sym (bit-zero s) ∙ h)) ∙ sym (bit-suc s j)
plus-other (suc k) zero s h ne = bit-zero (s + 2 ^ suc k) ∙ plus-low s k ∙ sym (bit-zero s)
plus-other (suc k) (suc j) s h ne =
    bit-suc (s + 2 ^ suc k) j ∙ ap (λ (x : ℕ). bit x j) (plus-half s k) ∙ plus-other k j (s / 2) (sym (bit-suc s k) ∙ h) (λ e. ne (ap suc e)) ∙ sym (bit-suc s j)

plus-count : (k s : ℕ) → bit s k ≡ 0 → ones (s + 2 ^ k) ≡ ones s + 1
plus-count zero s h =
    let e : s % 2 ≡ 0 = sym (bit-zero s) ∙ h in
    omega (arith, ones_step (s + 1), ones_step s, one-low s e, ap ones (one-half s e))
plus-count (suc k) s h = omega (arith, ones_step (s + 2 ^ suc k), ones_step s, plus-low s k, ap ones (plus-half s k), plus-count k (s / 2) (sym (bit-suc s k) ∙ h))

pub with_in : (s k : ℕ) → Member k (with_member s k)
with_in s k = go (bit-or s k)
  where
    go : (bit s k ≡ 0) ⊎ Member k s → Member k (with_member s k)
    go (inl a) = ap (λ (x : ℕ). bit x k) (with-absent s k a) ∙ plus-in k s a
    go (inr p) = ap (λ (x : ℕ). bit x k) (with-old s k p) ∙ p

pub with-other : (s k j : ℕ) → (j ≡ k → ⊥) → bit (with_member s k) j ≡ bit s j
with-other s k j ne = go (bit-or s k)
  where
    go : (bit s k ≡ 0) ⊎ Member k s → bit (with_member s k) j ≡ bit s j
    go (inl a) = ap (λ (x : ℕ). bit x j) (with-absent s k a) ∙ plus-other k j s a ne
    go (inr p) = ap (λ (x : ℕ). bit x j) (with-old s k p)

pub with-new : (s k : ℕ) → (Member k s → ⊥) → ones (with_member s k) ≡ ones s + 1
with-new s k out = go (bit-or s k)
  where
    go : (bit s k ≡ 0) ⊎ Member k s → ones (with_member s k) ≡ ones s + 1
    go (inl a) = ap ones (with-absent s k a) ∙ plus-count k s a
    go (inr p) = absurd (out p)

-- ---- a set of ids below n

no-members : (s : ℕ) → ((k : ℕ) → Member k s → ⊥) → s ≡ 0
no-members = bin_ind (λ (s : ℕ). ((k : ℕ) → Member k s → ⊥) → s ≡ 0) (λ h. refl) (λ s ih h. go s (ih (λ k m. h (suc k) (bit-suc s k ∙ m))) h (low s))
  where
    go : (s : ℕ) → s / 2 ≡ 0 → ((k : ℕ) → Member k s → ⊥) → (s % 2 ≡ 0) ⊎ (s % 2 ≡ 1) → s ≡ 0
    go s e h (inl a) = omega (arith, div-add-mod' s 2)
    go s e h (inr a) = absurd (h 0 (bit-zero s ∙ a))

pub all-below : (n s : ℕ) → ((k : ℕ) → Member k s → k < n) → s < 2 ^ n
all-below zero s h = omega (arith, no-members s (λ k m. omega (arith, h k m)))
all-below (suc n) s h = dbl_lt n s (all-below n (s / 2) (λ k m. omega (arith, h (suc k) (bit-suc s k ∙ m))))

pub below_all : (n s k : ℕ) → s < 2 ^ n → Member k s → k < n
below_all zero s k h m = absurd (omega (arith, m, ap (λ (x : ℕ). bit x k) (lt-one h), zero-div (2 ^ k)))
below_all (suc n) s zero h m = zero-lt-suc n
below_all (suc n) s (suc k) h m = omega (arith, below_all n (s / 2) k (half_lt n s h) (sym (bit-suc s k) ∙ m))

-- ---- the count, as the length of the list of ids

none : (s : ℕ) → length (members 0 s) ≡ 0
unfolding members when◌then◌else◌
none s = refl

members_step : (n s : ℕ) → length (members (suc n) s) ≡ length (members n s) + bit s n
unfolding members when◌then◌else◌
members_step n s = length-append (members n s) (when eqb (bit s n) 1 then n ∷ [] else []) ∙ ap (λ (x : ℕ). length (members n s) + x) (go (bit-or s n))
  where
    go : (bit s n ≡ 0) ⊎ Member n s → length (when eqb (bit s n) 1 then n ∷ [] else []) ≡ bit s n
    go (inl a) = simp (ne_eqb (bit s n) 1 (λ e. omega (arith, a, e))) (sym a)
    go (inr p) = simp (eq-eqb (bit s n) 1 p) (sym p)

sum-shift : (n s : ℕ) → length (members (suc n) s) ≡ s % 2 + length (members n (s / 2))
sum-shift zero s = omega (arith, members_step 0 s, none s, none (s / 2), bit-zero s)
sum-shift (suc n) s = omega (arith, members_step (suc n) s, sum-shift n s, members_step n (s / 2), bit-suc s n)

pub members-count : (n s : ℕ) → s < 2 ^ n → length (members n s) ≡ ones s
members-count zero s h = omega (arith, ones-le 0 s h, none s)
members-count (suc n) s h = omega (arith, sum-shift n s, members-count n (s / 2) (half_lt n s h), ones_step s)

-- ---- of any set, only the ids below n

low_half : (n s : ℕ) → s % 2 ^ suc n / 2 ≡ s / 2 % 2 ^ n
low_half n s = ap (λ (x : ℕ). s % 2 ^ x / 2) (omega arith) ∙ field s n 1

low-low : (n s : ℕ) → s % 2 ^ suc n % 2 ≡ s % 2
low-low n s = ap (λ (x : ℕ). s % 2 ^ x % 2) (omega arith) ∙ mod-mod-pow s n 1

pub count_low : (n s : ℕ) → ones (s % 2 ^ n) ≡ count_below n s
unfolding count_below
count_low zero s = omega (arith, ones-le 0 (s % 2 ^ 0) (mod-lt s (pow_pos 0)), none s)
count_low (suc n) s =
    omega (arith, sum-shift n s, count_low n (s / 2), ones_step (s % 2 ^ suc n), ap ones (low_half n s), low-low n s)

pub count_none : (n : ℕ) → count_below n 0 ≡ 0
count_none n = sym (count_low n 0) ∙ ap ones (mod-eq_of_lt (pow_pos n)) ∙ omega (arith, ones-le 0 0 (pow_pos 0))

pub below-quorums-meet : (n s t : ℕ) → quorum_of n ≤ count_below n s → quorum_of n ≤ count_below n t → Shared n (s % 2 ^ n) (t % 2 ^ n)
below-quorums-meet n s t hs ht =
    quorums-meet n (s % 2 ^ n) (t % 2 ^ n) (mod-lt s (pow_pos n)) (mod-lt t (pow_pos n)) (omega (arith, count_low n s))
    (omega (arith, count_low n t))

-- ---- one id more, unless it is our own

with-among : (s k j : ℕ) → Member j (with_member s k) → Member j s ⊎ (j ≡ k)
with-among s k j h = go (eqb j k) refl
  where
    go : (b : Bool) → eqb j k ≡ b → Member j s ⊎ (j ≡ k)
    go true e = inr (eqb-true j k e)
    go false e = inl (sym (with-other s k j (eqb-false j k e)) ∙ h)

pub another-in : (s own k j : ℕ) → Member j (with_another s own k) → Member j s ⊎ (j ≡ k)
unfolding with_another
another-in s own k j = split (λ (t : ℕ). Member j t → Member j s ⊎ (j ≡ k)) _ _ _ (λ _ h. inl h) (λ _. with-among s k j)

pub another-out : (s own k : ℕ) → bit s own ≡ 0 → bit (with_another s own k) own ≡ 0
unfolding with_another
another-out s own k h =
    split (λ (t : ℕ). bit t own ≡ 0) _ _ _ (λ _. h) (λ ne. with-other s k own (λ e. eqb-false k own ne (sym e)) ∙ h)

pub another-lt : (n s own k : ℕ) → s < 2 ^ n → k < n → with_another s own k < 2 ^ n
unfolding with_another
another-lt n s own k hs hk = split (λ (t : ℕ). t < 2 ^ n) _ _ _ (λ _. hs) (λ _. with-lt n s k hs hk)

with-digit : (s k j : ℕ) → bit s j ≤ bit (with_member s k) j
with-digit s k j = go (eqb j k) refl
  where
    go : (b : Bool) → eqb j k ≡ b → bit s j ≤ bit (with_member s k) j
    go true e =
        let in-it : bit (with_member s k) j ≡ 1 = subst (λ (i : ℕ). Member i (with_member s k)) (sym (eqb-true j k e)) (with_in s k) in
        omega (arith, in-it, mod-lt (s / 2 ^ j) two_pos)
    go false e = omega (arith, with-other s k j (eqb-false j k e))

with-count : (n s k : ℕ) → count_below n s ≤ count_below n (with_member s k)
unfolding count_below
with-count zero s k = omega (arith, none s, none (with_member s k))
with-count (suc n) s k = omega (arith, members_step n s, members_step n (with_member s k), with-count n s k, with-digit s k n)

pub another-count : (n s own k : ℕ) → count_below n s ≤ count_below n (with_another s own k)
unfolding with_another
another-count n s own k = split (λ (t : ℕ). count_below n s ≤ count_below n t) _ _ _ (λ _. le_refl _) (λ _. with-count n s k)
