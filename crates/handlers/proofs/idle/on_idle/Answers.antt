-- `handlers::idle::on_idle` meets its contract. Assumes nothing.
use Rattle.handlers.proofs.HandleLaws.{normal-is, transfer-is, change-is, recovering-is}
use Rattle.handlers.proofs.idle.on_idle.Goals as goal

pub returns-then-is_normal : goal.returns-then-is_normal
returns-then-is_normal c = let a = c.args in normal-is a.s a.log.now a.results.now a.totals.now a.acks.now a.stored.now a.out.now a.reps.now c.is_normal.result c.is_normal.ensures c.if-is_normal.true c.tick_normal.ensures

pub returns-then-is_transfer : goal.returns-then-is_transfer
returns-then-is_transfer c = let a = c.args in transfer-is a.s a.log.now a.results.now a.totals.now a.acks.now a.stored.now a.out.now a.reps.now c.is_normal.result c.is_normal.ensures c.if-is_normal.false c.is_transfer.result c.is_transfer.ensures c.if-is_transfer.true c.tick.result c.tick.ensures c.tick_asking.ensures

pub returns-then-is_changing : goal.returns-then-is_changing
returns-then-is_changing c = let a = c.args in change-is a.s a.log.now a.results.now a.totals.now a.acks.now a.stored.now a.out.now a.reps.now c.is_normal.result c.is_normal.ensures c.if-is_normal.false c.is_transfer.result c.is_transfer.ensures c.if-is_transfer.false c.is_changing.result c.is_changing.ensures c.if-is_changing.true c.tick-t.result c.tick-t.ensures c.tick_change.ensures

pub returns : goal.returns
returns c = let a = c.args in recovering-is a.s a.log.now a.results.now a.totals.now a.acks.now a.stored.now a.out.now a.reps.now c.is_normal.result c.is_normal.ensures c.if-is_normal.false c.is_transfer.result c.is_transfer.ensures c.if-is_transfer.false c.is_changing.result c.is_changing.ensures c.if-is_changing.false c.tick_recovering.ensures
