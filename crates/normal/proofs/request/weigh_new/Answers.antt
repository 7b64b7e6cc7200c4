-- `normal::request::weigh_new` meets its contract. Assumes nothing.
use Rattle.normal.proofs.RequestLaws.{full, new-short, new}
use Rattle.normal.proofs.request.weigh_new.Goals as goal

pub returns-then-s : goal.returns-then-s
returns-then-s c =
    let a = c.args in
    full a.s a.out c.if-s.true

pub returns-then-out-sends : goal.returns-then-out-sends
returns-then-out-sends c =
    let a = c.args in
    new-short a.s a.out _ c.if-s.false c.sends.ensures c.if-out-sends.true

pub returns : goal.returns
returns c =
    let a = c.args in
    new a.s a.out _ c.if-s.false c.sends.ensures c.if-out-sends.false
