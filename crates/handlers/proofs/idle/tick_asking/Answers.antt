-- `handlers::idle::tick_asking` meets its contract. Assumes nothing.
use Rattle.handlers.proofs.HandleLaws.{up-asks, asks}
use Rattle.config.proofs.SetupLaws.{sized}
use native.Mathlib.Omega.{arith}
use Rattle.handlers.proofs.idle.tick_asking.Goals as goal

pub returns-then-t : goal.returns-then-t
returns-then-t c = let a = c.args in up-asks a.s a.out.now a.t c.if-t.true c.next_view_asking.ensures

pub tick_transfer-requires : goal.tick_transfer-requires
tick_transfer-requires c = let z = sized c.args.s.setup c.requires in omega (arith, z.three)

pub returns : goal.returns
returns c = let a = c.args in asks a.s a.out.now a.t c.if-t.false c.tick_transfer.ensures
