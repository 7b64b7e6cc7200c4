-- `do_view_change::record::settle_wait` meets its contract. Assumes nothing.
use Rattle.do_view_change.proofs.DecideLaws.{wait-short, wait-keeps}
use Rattle.do_view_change.proofs.record.settle_wait.Goals as goal

pub returns-then-area-first_len : goal.returns-then-area-first_len
returns-then-area-first_len c =
    let a = c.args in
    wait-short a.t a.first a.area a.replies _ c.first_len.ensures c.if-area-first_len.true

pub returns : goal.returns
returns c =
    let a = c.args in
    wait-keeps a.t a.first a.area a.replies _ c.first_len.ensures c.if-area-first_len.false
