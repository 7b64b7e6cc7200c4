-- `recovery::response::on_recovery_response` meets its contract. Assumes nothing.
use Rattle.recovery.proofs.ResponseLaws.{other-nonce, our-nonce}
use Rattle.recovery.proofs.response.on_recovery_response.Goals as goal

pub returns-then-x-s : goal.returns-then-x-s
returns-then-x-s c =
    let a = c.args in
    other-nonce a.s a.v a.x a.r a.state a.part.now a.log.now a.results.now a.totals.now a.stored.now _
    c.if-x-s.true c.done.ensures

pub returns : goal.returns
returns c =
    let a = c.args in
    our-nonce a.s a.v a.x a.r a.state a.part.now a.log.now a.results.now a.totals.now a.stored.now _ _
    c.if-x-s.false
    c.response-d.ensures
    c.collect.ensures
