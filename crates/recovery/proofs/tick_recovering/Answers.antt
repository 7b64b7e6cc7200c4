-- `recovery::tick_recovering` meets its contract. Assumes nothing.
use native.Mathlib.Omega.{arith}
use Rattle.config.proofs.SetupLaws.{sized}
use Rattle.writers.specs.Writers.{size_of}
use Rattle.recovery.proofs.RecoveryLaws.{ticks-short, recoveries-fit, ticks}
use Rattle.recovery.proofs.tick_recovering.Goals as goal

pub overflow_sub-s : goal.overflow_sub-s
overflow_sub-s c = let z = sized c.args.s.setup c.requires in omega (arith, z.three)

pub returns-then-out-s : goal.returns-then-out-s
returns-then-out-s c =
    let a = c.args in
    ticks-short a.s a.out.now _ c.if-out-s.true c.refused.ensures

pub broadcast-w-requires : goal.broadcast-w-requires
broadcast-w-requires c =
    let a = c.args in
    recoveries-fit a.s a.out.now c.requires c.if-out-s.false 0

pub returns : goal.returns
unfolding size_of
returns c =
    let a = c.args in
    ticks a.s a.out.now c.requires c.if-out-s.false _ _ _
    c.broadcast-w.ensures c.done.ensures
