-- `normal::tick::tick_len` meets its contract. Assumes nothing.
use native.Mathlib.Omega.{arith}
use Rattle.config.proofs.SetupLaws.{sized}
use Rattle.normal.proofs.tick.tick_len.Goals as goal

pub overflow_sub-others : goal.overflow_sub-others
overflow_sub-others c =
    let z = sized c.args.s.setup c.requires.sized in
    omega (arith, z.three)
