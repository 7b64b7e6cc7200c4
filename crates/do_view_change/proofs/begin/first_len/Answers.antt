-- `do_view_change::begin::first_len` meets its contract. Assumes nothing.
use native.Mathlib.Omega.{arith}
use Rattle.config.proofs.SetupLaws.{sized}
use Rattle.do_view_change.proofs.BeginLaws.{calls-counted, none-counted}
use Rattle.do_view_change.proofs.begin.first_len.Goals as goal

pub overflow_sub-result : goal.overflow_sub-result
overflow_sub-result c = let z = sized c.args.t.setup c.requires in omega (arith, z.three)

pub returns-then-first : goal.returns-then-first
returns-then-first c = calls-counted c.args.first c.args.t c.if-first.true

pub returns : goal.returns
returns c = none-counted c.args.first c.args.t c.if-first.false
