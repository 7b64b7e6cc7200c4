-- `numbers::read_be` meets its contract. The invariant: the number of the bytes passed, and its bound.
-- Assumes nothing.
use mathlib.Core.Path.{◌≡◌, ap, ◌∙◌}
use native.Mathlib.Omega.{arith}
use native.Mathlib.Numerals.{add-one}
use native.Mathlib.Nat.{pow-succ'}
use mathlib.Core.List.{List}
use Prim.Native.Nat.{ℕ, ◌+◌, ◌-◌, ◌*◌, ◌^◌, ◌≤◌, ◌<◌}
use lib.ListN.{length, get_or, take, drop, length-take, length-drop}
use lib.Seq.{take_all}
use Rattle.numbers.specs.Numbers.{be, num}
use Rattle.numbers.proofs.NumberLaws.{be-suc, pow-le256, drop-bytes, take-bytes}
use Rattle.numbers.proofs.read_be.Goals as goal

-- one turn: the bound and the number with one byte more
turn : (l : List ℕ) (i x : ℕ) → i < length l → x ≡ be (take i l) → x < 256 ^ i → get_or l i 0 < 256
    → (x * 256 + get_or l i 0 ≡ be (take (i + 1) l)) × (x * 256 + get_or l i 0 < 256 ^ (i + 1))
turn l i x h e b g = (rw (add-one, be-suc l i h, ← e), rw (add-one, pow-succ' 256 i) (omega (arith, g)))

part : (s : List ℕ) (at k : ℕ) → at + k ≤ length s → length (take (at + k - at) (drop at s)) ≡ k
part s at k h = simp (length-take, length-drop) (omega arith)

pub overflow_mul-x : goal.overflow_mul-x
overflow_mul-x c =
    let n = part c.args.s.now c.args.at c.args.k c.requires.0 in
    omega (arith, pow-le256 {i = c.loop-b.b-index} {j = 7} (omega (arith, n)))

pub loop-b-preserved : goal.loop-b-preserved
loop-b-preserved c =
    let a = c.args in
    let h = take-bytes (a.at + a.k - a.at) (drop a.at a.s.now) (drop-bytes a.at a.s.now (λ (i : ℕ). omega (arith, c.type_inv.s i))) in
    turn (take (a.at + a.k - a.at) (drop a.at a.s.now)) c.loop-b.b-index c.loop-b.x c.loop-b-test.true c.loop-b.invariant.0 c.loop-b.invariant.1
    (h c.loop-b.b-index)

pub returns : goal.returns
unfolding num
returns c =
    let a = c.args in
    let l = drop a.at a.s.now in
    let n = part a.s.now a.at a.k c.requires.0 in
    let e : c.loop-b.b-index ≡ a.k = omega (arith, n) in
    let d : a.at + a.k - a.at ≡ a.k = omega arith in
    let t : take a.k (take a.k l) ≡ take a.k l = take_all a.k (take a.k l) (omega (arith, rw d at n)) in
    (c.loop-b.invariant.0 ∙ rw (e, d) (ap be t), rw (← e) c.loop-b.invariant.1)
