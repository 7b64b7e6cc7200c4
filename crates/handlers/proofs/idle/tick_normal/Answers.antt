-- `handlers::idle::tick_normal` meets its contract. Assumes nothing.
use Rattle.handlers.proofs.HandleLaws.{leads-on, follows_on}
use Rattle.config.proofs.SetupLaws.{sized}
use native.Mathlib.Omega.{arith}
use Rattle.handlers.proofs.idle.tick_normal.Goals as goal

pub is_primary-requires : goal.is_primary-requires
is_primary-requires c = let z = sized c.args.s.setup c.requires.sized in omega (arith, z.three)

pub returns-then-is_primary : goal.returns-then-is_primary
returns-then-is_primary c = let a = c.args in leads-on a.s a.out.now a.log.now c.is_primary.result c.is_primary.ensures c.if-is_primary.true c.tick_primary.ensures

pub returns : goal.returns
returns c = let a = c.args in follows_on a.s a.out.now a.log.now c.is_primary.result c.is_primary.ensures c.if-is_primary.false c.tick.result c.tick.ensures c.tick_follow.ensures
