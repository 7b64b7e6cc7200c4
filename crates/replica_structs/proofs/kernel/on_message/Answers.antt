-- `replica_structs::kernel::on_message` meets its contract. Assumes nothing.
use Rattle.book.specs.Memory.{memory}
use Rattle.replica_structs.proofs.CoreLaws.{malformed, taken}
use Rattle.replica_structs.proofs.PointLaws.{core-offset}
use Rattle.replica_structs.proofs.kernel.on_message.Goals as goal

pub returns-in-Err : goal.returns-in-Err
returns-in-Err c =
    let a = c.args in
    let m = memory a.log.now a.results.now a.totals.now a.acks.now a.stored.now a.out.now a.reps.now in
    let e = malformed a.c a.s a.latest a.frame.now m _ c.in-Err.is c.refused.ensures in
    (e, core-offset a.s a.latest a.frame.now m a.c _ c.requires e)

pub returns-in-Ok : goal.returns-in-Ok
returns-in-Ok c =
    let a = c.args in
    let m = memory a.log.now a.results.now a.totals.now a.acks.now a.stored.now a.out.now a.reps.now in
    let e = taken a.c a.s a.latest a.frame.now m _ c.in-Ok.is c.told.result c.told.ensures c.on_message.ensures in
    (e, core-offset a.s a.latest a.frame.now m a.c _ c.requires e)
