-- `normal::request::accept` meets its contract. Assumes nothing.
use Rattle.normal.proofs.RequestLaws.{append-asks, own-bit, accepts}
use Rattle.normal.proofs.SendLaws.{prepare-asks}
use Rattle.normal.proofs.request.accept.Goals as goal

pub append-requires : goal.append-requires
append-requires c =
    let a = c.args in
    append-asks a.s a.log.now a.acks.now c.requires.0 c.requires.1.0

pub insert-requires : goal.insert-requires
insert-requires c =
    let a = c.args in
    own-bit a.s a.log.now a.acks.now c.requires.0

pub broadcast-w-requires : goal.broadcast-w-requires
broadcast-w-requires c =
    let a = c.args in
    prepare-asks a.s.setup c.requires.0.sized _ _ _ _ _ _ c.requires.1.1

pub returns : goal.returns
returns c =
    let a = c.args in
    let p = c.ack_place.ensures in
    let b = c.insert.ensures in
    let w = c.broadcast-w.ensures in
    accepts a.s a.log.now a.acks.now c.requires.0 a.e a.out.now _ _ _ _ _ _ _ c.append.ensures p b w
    c.with_log.ensures c.done.ensures
