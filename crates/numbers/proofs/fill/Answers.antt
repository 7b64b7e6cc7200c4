-- `numbers::fill` meets its contract. Assumes nothing.
use mathlib.Core.Path.{◌≡◌}
use mathlib.Core.List.{[], append-nil}
use native.Mathlib.Omega.{arith}
use lib.ListN.{length, take, drop, length-replicate, drop_of_length-le}
use lib.Seq.{length-take-le}
use Rattle.numbers.specs.Numbers.{over}
use Rattle.numbers.proofs.fill.Goals as goal

pub returns : goal.returns
unfolding over
returns c =
    let a = c.args in
    let n : length (take a.n a.area.now) ≡ a.n = length-take-le a.n a.area.now (omega arith) in
    let e : c.loop-x.x-index ≡ a.n = omega (arith, n) in
    let d : drop a.n (take a.n a.area.now) ≡ [] = drop_of_length-le (take a.n a.area.now) {i = a.n} (omega (arith, n)) in
    rw (c.loop-x.invariant, e, d, append-nil, length-replicate)
