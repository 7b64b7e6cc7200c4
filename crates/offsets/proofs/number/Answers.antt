-- `offsets::number` meets its contract. The invariant: the number of the bytes passed, its bound, and that the whole answer is that of what is left behind them.
-- Assumes nothing.
use mathlib.Core.Path.{◌≡◌, refl, sym, ap, ◌∙◌}
use mathlib.Core.Bool.{Bool, true, false}
use mathlib.Core.List.{List}
use Prim.Native.Nat.{ℕ, suc, ◌+◌, ◌-◌, ◌*◌, ◌/◌, ◌^◌, ◌<◌}
use native.Mathlib.Nat.{pow-succ'}
use native.Mathlib.Numerals.{add-one}
use native.Mathlib.Omega.{arith}
use lib.ListN.{length, get_or, drop}
use Rattle.numbers.specs.Words.{when◌then◌else◌}
use Rattle.numbers.specs.Numbers.{within}
use Rattle.numbers.proofs.NumberLaws.{pow-pos256, pow-le256}
use Rattle.numbers.proofs.WordLaws.{if-true, if-false}
use Rattle.offsets.specs.Rules.{reach, between, number_reach}
use Rattle.offsets.proofs.ReadLaws.{number-next, number-none}
use Rattle.offsets.proofs.number.Invariants.{Whole}
use Rattle.offsets.proofs.number.Goals as goal

-- the next byte
module _ (s : List ℕ) (at n low high x i : ℕ) (l : i < n) (h : at + i < length s) (w : Whole s at n low high x i) where
  abbrev y : ℕ
  y = x * 256 + get_or s (at + i) 0

  abbrev ok : Bool
  ok = within (low / 256 ^ (n - 1 - i)) (high / 256 ^ (n - 1 - i)) y

  next : number_reach (n - i) x low high (drop (at + i) s)
      ≡ (when ok then suc (number_reach (n - 1 - i) y low high (drop (suc (at + i)) s)) else 0)
  next =
      let m : n - i ≡ suc (n - 1 - i) = omega arith in
      rw m (number-next (n - 1 - i) x low high (at + i) s h)

  stops : ok ≡ false → number_reach n 0 low high (drop at s) ≡ i
  stops f = let e = next ∙ if-false ok _ _ f in omega (arith, w, e)

  goes : ok ≡ true → Whole s at n low high y (i + 1)
  goes t =
      let e = next ∙ if-true ok (suc (number_reach (n - 1 - i) y low high (drop (suc (at + i)) s))) 0 t in
      let m : n - 1 - i ≡ n - (i + 1) = omega arith in
      let a : suc (at + i) ≡ at + (i + 1) = omega arith in
      let f : number_reach (n - 1 - i) y low high (drop (suc (at + i)) s) ≡ number_reach (n - (i + 1)) y low high (drop (at + (i + 1)) s) = rw (m, a) in
      omega (arith, w, e, f)

-- the number so far fits with one byte more
small : {i x : ℕ} → i < 8 → x < 256 ^ i → x < 72057594037927936
small {i} h g = omega (arith, pow-le256 {i = i} {j = 7} (omega arith), g)

zero-reach : (low high x : ℕ) (s : List ℕ) → number_reach 0 x low high s ≡ 0
unfolding number_reach reach between
zero-reach low high x s = refl

pub returns-then-s-at : goal.returns-then-s-at
returns-then-s-at c =
    let l = c.loop-i in
    let a = c.args in
    let e = number-none (a.n - l.i) l.x a.low a.high (a.at + l.i) a.s.now (omega (arith, c.if-s-at.true, l.invariant.0)) in
    omega (arith, e, l.invariant, c.if-s-at.true)

pub overflow_mul-x : goal.overflow_mul-x
overflow_mul-x c = let l = c.loop-i in omega (arith, small {i = l.i} (omega arith) l.invariant.1)

pub overflow_add-x-in-loop-i : goal.overflow_add-x-in-loop-i
overflow_add-x-in-loop-i c =
    let l = c.loop-i in
    omega (
      arith,
      c.type_inv.s (c.args.at + l.i),
      small {i = l.i} (omega arith) l.invariant.1,
    )

pub nonzero_div-low : goal.nonzero_div-low
nonzero_div-low c =
    omega (arith, c.power-p.ensures, pow-pos256 (c.args.n - 1 - c.loop-i.i))

pub returns-then-not-within : goal.returns-then-not-within
returns-then-not-within c =
    let l = c.loop-i in
    let a = c.args in
    let e = sym c.within.ensures ∙ c.if-not-within.true in
    let f = stops a.s.now a.at a.n a.low a.high l.x l.i (omega arith) (omega (arith, c.if-s-at.false)) l.invariant.2 (rw c.power-p.ensures at e) in
    omega (arith, f)

pub loop-i-preserved : goal.loop-i-preserved
loop-i-preserved c =
    let l = c.loop-i in
    let a = c.args in
    let e = sym c.within.ensures ∙ c.if-not-within.false in
    let g = c.type_inv.s (a.at + l.i) in
    let h : a.at + l.i < length a.s.now = omega (arith, c.if-s-at.false) in (
      omega (arith, h),
      rw (add-one, pow-succ' 256 l.i) (omega (arith, g, l.invariant.1)),
      goes a.s.now a.at a.n a.low a.high l.x l.i (omega arith) h l.invariant.2 (rw c.power-p.ensures at e),
    )

pub returns : goal.returns
returns c =
    let l = c.loop-i in
    let a = c.args in
    let z : a.n - l.i ≡ 0 = omega arith in
    omega (arith, l.invariant.2, zero-reach a.low a.high l.x (drop (a.at + l.i) a.s.now), ap (λ (m : ℕ). number_reach m l.x a.low a.high (drop (a.at + l.i) a.s.now)) z)

pub nonzero_div-high : goal.nonzero_div-high
nonzero_div-high c =
    omega (arith, c.power-p.ensures, pow-pos256 (c.args.n - 1 - c.loop-i.i))
