-- `do_view_change::begin::call_first` meets its contract. Assumes nothing.
use native.Mathlib.Omega.{arith}
use Rattle.do_view_change.proofs.BeginLaws.{calls-counted, calls-go, none-go}
use Rattle.do_view_change.proofs.begin.call_first.Goals as goal

pub call_others-requires : goal.call_others-requires
call_others-requires c =
    (c.requires.0, omega (arith, calls-counted c.args.first c.args.t c.if-first.true, c.requires.1))

pub returns-then-first : goal.returns-then-first
returns-then-first c =
    calls-go c.args.first c.args.t _ _ _ c.if-first.true c.call_others.ensures

pub returns : goal.returns
returns c = none-go c.args.first c.args.t _ c.if-first.false
