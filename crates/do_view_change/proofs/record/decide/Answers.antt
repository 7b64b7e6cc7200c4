-- `do_view_change::record::decide` meets its contract. Assumes nothing.
use Rattle.do_view_change.proofs.DecideLaws.{decides, refuses, begins-long}
use Rattle.do_view_change.proofs.DecisionLaws.{keeps-decision}
use Rattle.do_view_change.proofs.record.decide.Goals as goal

pub settle_begin-requires : goal.settle_begin-requires
settle_begin-requires c =
    let a = c.args in
    let p = c.requires in (
      p.0,
      begins-long a.t a.rows a.r a.first a.area a.replies a.log.now a.stored.now a.fresh.now _
          c.judge.ensures.exact p.1.0 _ _ c.in-Begin.is,
    )

pub returns-in-Wait : goal.returns-in-Wait
returns-in-Wait c =
    let a = c.args in
    keeps-decision _ _ _ _ _ _ _ _ _ _
    (decides a.t a.rows a.r a.first a.area a.replies a.log.now a.stored.now a.fresh.now _ c.judge.ensures.exact
    _ _ c.in-Wait.is c.settle_wait.ensures)

pub returns-in-Refuse : goal.returns-in-Refuse
returns-in-Refuse c =
    let a = c.args in
    keeps-decision _ _ _ _ _ _ _ _ _ _
    (refuses a.t a.rows a.r a.first a.area a.replies a.log.now a.stored.now a.fresh.now _ c.judge.ensures.exact
    c.in-Refuse.is)

pub returns-in-Begin : goal.returns-in-Begin
returns-in-Begin c =
    let a = c.args in
    keeps-decision _ _ _ _ _ _ _ _ _ _
    (decides a.t a.rows a.r a.first a.area a.replies a.log.now a.stored.now a.fresh.now _ c.judge.ensures.exact
    _ _ c.in-Begin.is c.settle_begin.ensures)
