-- `normal::request::weigh_again` meets its contract. Assumes nothing.
use Rattle.normal.proofs.RequestLaws.{older, again-short, again}
use Rattle.normal.proofs.request.weigh_again.Goals as goal

pub returns-then-e-request : goal.returns-then-e-request
returns-then-e-request c =
    let a = c.args in
    older a.e a.request a.reply a.room c.if-e-request.true

pub returns-then-room-lt36 : goal.returns-then-room-lt36
returns-then-room-lt36 c =
    let a = c.args in
    again-short a.e a.request a.reply a.room c.if-e-request.false c.if-room-lt36.true

pub returns : goal.returns
returns c =
    let a = c.args in
    again a.e a.request a.reply a.room c.if-e-request.false c.if-room-lt36.false
