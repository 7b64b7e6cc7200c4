-- `view_change::start_view_change::start_view_change` meets its contract. Assumes nothing.
use native.Mathlib.Omega.{arith}
use Rattle.config.proofs.SetupLaws.{sized}
use Rattle.view_change.proofs.StartViewChangeLaws.{changes-short, changes}
use Rattle.view_change.proofs.start_view_change.start_view_change.Goals as goal

pub overflow_sub-t : goal.overflow_sub-t
overflow_sub-t c = let z = sized c.args.t.setup c.requires in omega (arith, z.three)

pub returns-then-out-t : goal.returns-then-out-t
returns-then-out-t c = let a = c.args in changes-short a.s a.t a.v a.out.now _ c.if-out-t.true c.refused.ensures

pub returns : goal.returns
returns c = let a = c.args in changes a.s a.t a.v a.out.now _ _ _ _ c.requires c.if-out-t.false c.call_others-w.ensures c.changing_to.ensures c.done.ensures
