-- `offsets::free` meets its contract. Assumes nothing.
use mathlib.Core.Logic.{⊎_elim}
use Prim.Native.Nat.{◌≤◌, ◌<◌}
use native.Mathlib.Omega.{arith}
use lib.ListN.{length, drop, length-drop}
use Rattle.numbers.proofs.NumberLaws.{le-or-lt}
use Rattle.offsets.specs.Rules.{end, reach}
use Rattle.offsets.proofs.ReadLaws.{reach-free, reach-free-short}
use Rattle.offsets.proofs.free.Goals as goal

pub returns : goal.returns
unfolding reach
returns c =
    let a = c.args in
    let s = drop a.at a.s.now in
    let l = length-drop a.at a.s.now in
    ⊎_elim (λ (h : a.n ≤ length s). omega (arith, reach-free a.n end s h, l))
    (λ (h : length s < a.n). omega (arith, reach-free-short a.n end s h, l))
    (le-or-lt a.n (length s))
