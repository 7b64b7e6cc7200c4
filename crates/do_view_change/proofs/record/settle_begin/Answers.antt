-- `do_view_change::record::settle_begin` meets its contract. Assumes nothing.
use Rattle.do_view_change.proofs.BeginLaws.{first_small, views-small}
use Rattle.do_view_change.proofs.DecideLaws.{begin-short, begin-owes, begin-starts}
use native.Mathlib.Omega.{arith}
use Rattle.do_view_change.proofs.record.settle_begin.Goals as goal

pub overflow_add-first_len : goal.overflow_add-first_len
overflow_add-first_len c =
    let a = c.args in
    let p = c.requires in
    omega (
      arith,
      c.first_len.ensures,
      c.start_views_len.ensures,
      first_small a.first a.t p.0,
      views-small a.t.setup a.best.report.op.0 p.0 p.1,
    )

pub returns-then-area-first_len : goal.returns-then-area-first_len
returns-then-area-first_len c =
    let a = c.args in
    begin-short a.t a.first a.area a.replies _ c.first_len.ensures a.best a.g _ c.start_views_len.ensures
    c.if-area-first_len.true

pub returns-then-replies-replies_len : goal.returns-then-replies-replies_len
returns-then-replies-replies_len c =
    let a = c.args in
    begin-owes a.t a.first a.area a.replies _ c.first_len.ensures a.best a.g _ c.start_views_len.ensures
    c.if-area-first_len.false _ c.replies_len.ensures c.if-replies-replies_len.true

pub returns : goal.returns
returns c =
    let a = c.args in
    begin-starts a.t a.first a.area a.replies _ c.first_len.ensures a.best a.g _ c.start_views_len.ensures
    c.if-area-first_len.false _ c.replies_len.ensures c.if-replies-replies_len.false
