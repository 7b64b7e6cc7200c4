-- `numbers::copy` meets its contract. The invariant: the first i bytes are those of src, and the others are as they were.
-- Assumes nothing.
use mathlib.Core.Path.{◌≡◌}
use native.Mathlib.Omega.{arith}
use Rattle.numbers.proofs.RunLaws.{over-take, over-nil}
use Rattle.numbers.proofs.copy.Goals as goal

pub loop-i-init : goal.loop-i-init
loop-i-init c = over-nil c.args.area.now

pub loop-i-preserved : goal.loop-i-preserved
loop-i-preserved c = over-take c.args.src.now c.args.area.now c.loop-i.i (omega arith) (omega arith) c.loop-i.invariant

pub returns : goal.returns
returns c =
    let e : c.loop-i.i ≡ c.args.n = omega arith in
    rw (← e) c.loop-i.invariant
