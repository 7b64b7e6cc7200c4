-- `numbers::write_be` meets its contract. The invariant: the bytes from i on are those of x, and the others are as they were.
-- Assumes nothing.
use mathlib.Core.Path.{◌≡◌, sym, ◌∙◌}
use mathlib.Core.List.{List, ◌++◌}
use Prim.Native.Nat.{ℕ, suc, ◌+◌, ◌-◌, ◌/◌, ◌%◌, ◌^◌, ◌≤◌}
use native.Mathlib.Omega.{arith}
use native.Mathlib.Nat.{pow-suc, div-div-eq-div-mul, div-one, sub_self}
use lib.ListN.{length, take, drop, set, take-append-drop}
use Rattle.numbers.specs.Numbers.{big}
use Rattle.numbers.proofs.RunLaws.{over-big, big-down}
use Rattle.numbers.proofs.write_be.Goals as goal

-- one turn: the next byte of x from the lowest up, where m are written already
turn : (a₀ a : List ℕ) (k x y i m : ℕ) → suc i + m ≡ k → k ≤ length a₀ → a ≡ take (suc i) a₀ ++ (big m x ++ drop k a₀) → y ≡ x / 256 ^ m
    → (set a i (y % 256) ≡ take i a₀ ++ (big (suc m) x ++ drop k a₀)) × (y / 256 ≡ x / 256 ^ suc m)
turn a₀ a k x y i m e f p q =
    let e' : i + suc m ≡ k = omega arith in
    let d : set (take (suc i) a₀ ++ (big m x ++ drop k a₀)) i (x / 256 ^ m % 256) ≡ take i a₀ ++ (big (suc m) x ++ drop k a₀) =
    rw (e, e') at (big-down a₀ x i m (omega arith)) in
    (rw (p, q) d, rw (q, pow-suc 256 m, div-div-eq-div-mul))

pub loop-i-init : goal.loop-i-init
unfolding big
loop-i-init c = (rw sub_self (sym (take-append-drop c.args.k c.args.area.now)), rw (sub_self, div-one))

pub loop-i-preserved : goal.loop-i-preserved
loop-i-preserved c =
    let i = c.loop-i.i in
    let k = c.args.k in
    let e : i ≡ suc (i - 1) = omega arith in
    let m : k - (i - 1) ≡ suc (k - i) = omega arith in
    let t = turn c.args.area.now c.loop-i.area k c.args.x c.loop-i.y (i - 1) (k - i)
    (omega arith) (omega arith) (rw (← e) c.loop-i.invariant.0) c.loop-i.invariant.1 in
    (rw m t.0, rw m t.1)

pub returns : goal.returns
returns c =
    let z : c.loop-i.i ≡ 0 = omega arith in
    let e : c.args.k - c.loop-i.i ≡ c.args.k = omega arith in
    c.loop-i.invariant.0 ∙ rw (e, z) (over-big c.args.k c.args.x c.args.area.now)
