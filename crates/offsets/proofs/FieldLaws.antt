-- Laws of the two fields, n free bytes and a number between two bounds: they never get stuck, and the bytes that keep them are those whose number lies there.
--     lives-end, lives-free, lives-between, lives-just     at each place some byte may come
--     takes-free, takes-between     what the bytes say that a field takes: `Got`
--     free-takes, between-takes     and how to see that it takes them
-- Assumes nothing.
use mathlib.Core.Path.{◌≡◌, refl, sym}
use mathlib.Core.Bool.{true, false≢true}
use mathlib.Core.Logic.{⊎_elim}
use mathlib.Core.List.{List, [], ◌∷◌}
use Prim.Native.Nat.{ℕ, zero, suc, ◌+◌, ◌-◌, ◌*◌, ◌/◌, ◌^◌, ◌≤◌, ◌<◌}
use native.Mathlib.Nat.{mul_comm, pow-succ', div-one, div-eq_of_lt, div-div-eq-div-mul, div-mul-le_self, le-div_iff_mul-le}
use native.Mathlib.Omega.{arith}
use lib.Arith.{digits_div}
use lib.Dec.{lit<}
use lib.ListN.{length, take, drop}
use lib.Seq.{length-take-le}
use Rattle.numbers.specs.Words.{◌and◌}
use Rattle.numbers.specs.Numbers.{be_from, be, within, Bytes}
use Rattle.numbers.proofs.WordLaws.{and_both, and-true}
use Rattle.numbers.proofs.NumberLaws.{pow-pos256, be_from-acc, be-lt, take-bytes, within_both, both-within, le-or-lt}
use Rattle.offsets.specs.Rules.{Rule, end, takes, free, between}
use Rattle.offsets.proofs.RuleLaws.{Lives}

-- ---- numbers

div_mono : (low high d : ℕ) → 0 < d → low ≤ high → low / d ≤ high / d
div_mono low high d p h = (le-div_iff_mul-le {k = d} {x = low / d} {y = high} p).1 (omega (arith, div-mul-le_self low d))

div-step : (x n : ℕ) → x / 256 ^ suc n ≡ x / 256 ^ n / 256
div-step x n = rw (pow-succ' 256 n, mul_comm 256 (256 ^ n)) (sym (div-div-eq-div-mul x (256 ^ n) 256))

-- the numbers so far of the two bounds leave room for a byte
pub room_for : (p q x : ℕ) → p ≤ q → p / 256 ≤ x → x ≤ q / 256 → (b : ℕ) × (b < 256) × (within p q (x * 256 + b) ≡ true)
room_for p q x h l g =
    ⊎_elim
    (λ a. (0, lit< tt, both-within p q (x * 256 + 0) (omega arith) (omega arith)))
    (λ a. (p - x * 256, omega arith, both-within p q (x * 256 + (p - x * 256)) (omega arith) (omega arith)))
    (le-or-lt p (x * 256))

-- the number without its last bytes
front_of : (n x : ℕ) (s : List ℕ) → Bytes s → n ≤ length s → be_from x (take n s) / 256 ^ n ≡ x
front_of n x s h l =
    let e : length (take n s) ≡ n = length-take-le n s l in
    let d = digits_div x (be-lt (take n s) (take-bytes n s h)) in
    rw (← be_from-acc (take n s) x, e) at d

-- ---- free bytes

pub lives-end : Lives end
unfolding Lives
lives-end = tt

pub lives-free : (n : ℕ) (r : Rule) → Lives r → Lives (free n r)
unfolding free Lives
lives-free zero r l = l
lives-free (suc n) r l = ((0, lit< tt, refl), λ b h e. lives-free n r l)

pub takes-free : (n : ℕ) (r : Rule) (s : List ℕ) → takes (free n r) s ≡ true → (n ≤ length s) × (takes r (drop n s) ≡ true)
unfolding free takes ◌and◌
takes-free zero r s h = (omega arith, h)
takes-free (suc n) r [] h = absurd (false≢true h)
takes-free (suc n) r (b ∷ s) h = let p = takes-free n r s h in (omega (arith, p.0), p.1)

pub free-takes : (n : ℕ) (r : Rule) (s : List ℕ) → n ≤ length s → takes r (drop n s) ≡ true → takes (free n r) s ≡ true
unfolding free takes ◌and◌
free-takes zero r s h g = g
free-takes (suc n) r [] h g = absurd (omega arith)
free-takes (suc n) r (b ∷ s) h g = free-takes n r s (omega arith) g

-- ---- a number between two bounds

lives-from : (n x low high : ℕ) (next : ℕ → Rule) → low ≤ high → low / 256 ^ n ≤ x → x ≤ high / 256 ^ n
    → ((v : ℕ) → low ≤ v → v ≤ high → Lives (next v)) → Lives (between n x low high next)
unfolding between Lives
lives-from zero x low high next h l g f = f x (rw div-one at l) (rw div-one at g)
lives-from (suc n) x low high next h l g f = (
  room_for (low / 256 ^ n) (high / 256 ^ n) x (div_mono low high (256 ^ n) (pow-pos256 n) h) (rw (div-step low n) at l) (rw (div-step high n) at g),
  λ b k e. let p = within_both (low / 256 ^ n) (high / 256 ^ n) (x * 256 + b) e in lives-from n (x * 256 + b) low high next h p.0 p.1 f,
)

-- what the bytes say that keep it, the number's first bytes having made x
pub record Got (n x low high : ℕ) (next : ℕ → Rule) (s : List ℕ) : Type 0 where
  pub long : n ≤ length s
  pub least : low ≤ be_from x (take n s)
  pub most : be_from x (take n s) ≤ high
  pub rest : takes (next (be_from x (take n s))) (drop n s) ≡ true

takes-from : (n x low high : ℕ) (next : ℕ → Rule) (s : List ℕ) → low / 256 ^ n ≤ x → x ≤ high / 256 ^ n
    → takes (between n x low high next) s ≡ true → Got n x low high next s
unfolding between takes
takes-from zero x low high next s l g h =
    record { long = omega arith; least = rw div-one at l; most = rw div-one at g; rest = h }
takes-from (suc n) x low high next [] l g h = absurd (false≢true h)
takes-from (suc n) x low high next (b ∷ s) l g h =
    let p = and_both (within (low / 256 ^ n) (high / 256 ^ n) (x * 256 + b)) (takes (between n (x * 256 + b) low high next) s) h in
    let q = within_both (low / 256 ^ n) (high / 256 ^ n) (x * 256 + b) p.0 in
    let t = takes-from n (x * 256 + b) low high next s q.0 q.1 p.1 in
    record { long = omega (arith, t.long); least = t.least; most = t.most; rest = t.rest }

from-takes : (n x low high : ℕ) (next : ℕ → Rule) (s : List ℕ) → Bytes s → Got n x low high next s → takes (between n x low high next) s ≡ true
unfolding between takes
from-takes zero x low high next s h g = g.rest
from-takes (suc n) x low high next [] h g = absurd (omega (arith, g.long))
from-takes (suc n) x low high next (b ∷ s) h g =
    let long : n ≤ length s = omega (arith, g.long) in
    let t : Bytes s = λ i. h (suc i) in
    let e = front_of n (x * 256 + b) s t long in
    let l = div_mono low (be_from (x * 256 + b) (take n s)) (256 ^ n) (pow-pos256 n) g.least in
    let m = div_mono (be_from (x * 256 + b) (take n s)) high (256 ^ n) (pow-pos256 n) g.most in
    and-true (within (low / 256 ^ n) (high / 256 ^ n) (x * 256 + b)) (takes (between n (x * 256 + b) low high next) s)
    (both-within (low / 256 ^ n) (high / 256 ^ n) (x * 256 + b) (rw e at l) (rw e at m))
    (from-takes n (x * 256 + b) low high next s t (record { long = long; least = g.least; most = g.most; rest = g.rest }))

-- the same from the number's first byte on
low-zero : (n low : ℕ) → low < 256 ^ n → low / 256 ^ n ≤ 0
low-zero n low h = rw (div-eq_of_lt h) (omega arith)

pub lives-between : (n low high : ℕ) (next : ℕ → Rule) → low ≤ high → low < 256 ^ n
    → ((v : ℕ) → low ≤ v → v ≤ high → Lives (next v)) → Lives (between n 0 low high next)
lives-between n low high next h g f = lives-from n 0 low high next h (low-zero n low g) (omega arith) f

pub lives-just : (n v : ℕ) (r : Rule) → v < 256 ^ n → Lives r → Lives (between n 0 v v (λ x. r))
lives-just n v r h l = lives-between n v v (λ x. r) (omega arith) h (λ x a b. l)

pub takes-between : (n low high : ℕ) (next : ℕ → Rule) (s : List ℕ) → low < 256 ^ n → takes (between n 0 low high next) s ≡ true → Got n 0 low high next s
takes-between n low high next s g h = takes-from n 0 low high next s (low-zero n low g) (omega arith) h

pub between-takes : (n low high : ℕ) (next : ℕ → Rule) (s : List ℕ) → Bytes s → n ≤ length s
    → low ≤ be (take n s) → be (take n s) ≤ high → takes (next (be (take n s))) (drop n s) ≡ true → takes (between n 0 low high next) s ≡ true
between-takes n low high next s h l a z r = from-takes n 0 low high next s h (record { long = l; least = a; most = z; rest = r })
