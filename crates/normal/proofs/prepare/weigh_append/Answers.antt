-- `normal::prepare::weigh_append` meets its contract. Assumes nothing.
use mathlib.Core.Bool.{not}
use mathlib.Core.Path.{ap}
use Rattle.normal.proofs.PrepareLaws.{full, stale, rises}
use Rattle.normal.proofs.prepare.weigh_append.Goals as goal

pub returns-then-s : goal.returns-then-s
returns-then-s c = full c.args.s c.args.p c.if-s.true

pub returns-then-not-is_new : goal.returns-then-not-is_new
returns-then-not-is_new c =
    let a = c.args in
    let new = c.is_new in
    stale a.s a.p c.if-s.false new.result new.ensures (ap not c.if-not-is_new.true)

pub returns : goal.returns
returns c =
    let a = c.args in
    let new = c.is_new in
    rises a.s a.p c.if-s.false new.result new.ensures (ap not c.if-not-is_new.false)
