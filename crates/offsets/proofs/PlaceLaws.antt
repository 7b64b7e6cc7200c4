-- The laws of fields by places: what the bytes from place a on say that keep a field, and how to see that they keep it.
-- Assumes nothing.
use mathlib.Core.Path.{◌≡◌, refl}
use mathlib.Core.Bool.{Bool, true, false≢true}
use mathlib.Core.List.{List, [], ◌∷◌}
use Prim.Native.Nat.{ℕ, zero, suc, ◌+◌, ◌-◌, ◌^◌, ◌≤◌, ◌<◌}
use native.Mathlib.Nat.{zero-add}
use native.Mathlib.Omega.{arith}
use lib.ListN.{length, drop, length-drop}
use lib.Seq.{drop-drop}
use Rattle.numbers.specs.Numbers.{num, Bytes}
use Rattle.numbers.proofs.WordLaws.{and_both, and-true}
use Rattle.numbers.proofs.NumberLaws.{drop-bytes}
use Rattle.offsets.specs.Rules.{Rule, end, byte, takes, free, between}
use Rattle.offsets.proofs.FieldLaws.{takes-free, free-takes, takes-between, between-takes}

-- ---- nothing more

pub end-at : (a : ℕ) (s : List ℕ) → a ≤ length s → takes end (drop a s) ≡ true → length s ≡ a
unfolding takes
end-at zero [] l h = refl
end-at zero (b ∷ s) l h = absurd (false≢true h)
end-at (suc a) [] l h = absurd (omega arith)
end-at (suc a) (b ∷ s) l h = let e = end-at a s (omega arith) h in omega (arith, e)

pub at-end : (a : ℕ) (s : List ℕ) → length s ≡ a → takes end (drop a s) ≡ true
unfolding takes
at-end zero [] l = refl
at-end zero (b ∷ s) l = absurd (omega arith)
at-end (suc a) [] l = absurd (omega arith)
at-end (suc a) (b ∷ s) l = at-end a s (omega arith)

-- ---- a byte

pub byte_at : (ok : ℕ → Bool) (next : ℕ → Rule) (a : ℕ) (s : List ℕ) → takes (byte ok next) (drop a s) ≡ true
    → (a + 1 ≤ length s) × (ok (num 1 a s) ≡ true) × (takes (next (num 1 a s)) (drop (a + 1) s) ≡ true)
unfolding takes num
byte_at ok next zero [] h = absurd (false≢true h)
byte_at ok next zero (b ∷ s) h = let p = and_both (ok b) (takes (next b) s) h in (omega arith, rw zero-add p.0, rw zero-add p.1)
byte_at ok next (suc a) [] h = absurd (false≢true h)
byte_at ok next (suc a) (b ∷ s) h =
    let p = byte_at ok next a s h in
    let e : suc a + 1 ≡ suc (a + 1) = omega arith in
    (omega (arith, p.0), p.1, rw e p.2)

pub at_byte : (ok : ℕ → Bool) (next : ℕ → Rule) (a : ℕ) (s : List ℕ) → a + 1 ≤ length s → ok (num 1 a s) ≡ true
    → takes (next (num 1 a s)) (drop (a + 1) s) ≡ true → takes (byte ok next) (drop a s) ≡ true
unfolding takes num
at_byte ok next a [] l h g = absurd (omega arith)
at_byte ok next zero (b ∷ s) l h g = and-true (ok b) (takes (next b) s) (rw zero-add at h) (rw zero-add at g)
at_byte ok next (suc a) (b ∷ s) l h g =
    let e : suc a + 1 ≡ suc (a + 1) = omega arith in
    at_byte ok next a s (omega arith) h (rw e at g)

-- ---- free bytes

pub free-at : (n : ℕ) (r : Rule) (a : ℕ) (s : List ℕ) → a ≤ length s → takes (free n r) (drop a s) ≡ true
    → (a + n ≤ length s) × (takes r (drop (a + n) s) ≡ true)
free-at n r a s l h =
    let p = takes-free n r (drop a s) h in
    let q : n ≤ length s - a = rw length-drop at p.0 in
    (omega (arith, q), rw drop-drop at p.1)

pub at-free : (n : ℕ) (r : Rule) (a : ℕ) (s : List ℕ) → a + n ≤ length s → takes r (drop (a + n) s) ≡ true → takes (free n r) (drop a s) ≡ true
at-free n r a s l h = free-takes n r (drop a s) (rw length-drop (omega arith)) (rw drop-drop h)

-- ---- a number between two bounds

pub record Says (n low high : ℕ) (next : ℕ → Rule) (a : ℕ) (s : List ℕ) : Type 0 where
  pub long : a + n ≤ length s
  pub least : low ≤ num n a s
  pub most : num n a s ≤ high
  pub rest : takes (next (num n a s)) (drop (a + n) s) ≡ true

pub between-at : (n low high : ℕ) (next : ℕ → Rule) (a : ℕ) (s : List ℕ) → low < 256 ^ n → a ≤ length s
    → takes (between n 0 low high next) (drop a s) ≡ true → Says n low high next a s
unfolding num
between-at n low high next a s g l h =
    let p = takes-between n low high next (drop a s) g h in
    let q : n ≤ length s - a = rw length-drop at p.long in
    record { long = omega (arith, q); least = p.least; most = p.most; rest = rw drop-drop at p.rest }

pub at-between : (n low high : ℕ) (next : ℕ → Rule) (a : ℕ) (s : List ℕ) → Bytes s → a + n ≤ length s
    → low ≤ num n a s → num n a s ≤ high → takes (next (num n a s)) (drop (a + n) s) ≡ true → takes (between n 0 low high next) (drop a s) ≡ true
unfolding num
at-between n low high next a s b l p q r =
    between-takes n low high next (drop a s) (drop-bytes a s b) (rw length-drop (omega arith)) p q (rw drop-drop r)

-- n bytes that stand for v
pub just-at : (n v : ℕ) (r : Rule) (a : ℕ) (s : List ℕ) → v < 256 ^ n → a ≤ length s → takes (between n 0 v v (λ x. r)) (drop a s) ≡ true
    → (a + n ≤ length s) × (num n a s ≡ v) × (takes r (drop (a + n) s) ≡ true)
just-at n v r a s g l h =
    let p = between-at n v v (λ x. r) a s g l h in
    (p.long, omega (arith, p.least, p.most), p.rest)

pub at-just : (n v : ℕ) (r : Rule) (a : ℕ) (s : List ℕ) → Bytes s → a + n ≤ length s → num n a s ≡ v → takes r (drop (a + n) s) ≡ true
    → takes (between n 0 v v (λ x. r)) (drop a s) ≡ true
at-just n v r a s b l e h = at-between n v v (λ x. r) a s b l (omega arith) (omega arith) h
