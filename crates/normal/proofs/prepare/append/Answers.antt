-- `normal::prepare::append` meets its contract. Assumes nothing.
use Rattle.normal.proofs.PrepareLaws.{append-fits, no-area, appended}
use Rattle.normal.proofs.prepare.append.Goals as goal

pub returns-then-out-lt16 : goal.returns-then-out-lt16
returns-then-out-lt16 c = let a = c.args in no-area a.s a.p a.log.now a.results.now a.totals.now a.out.now _ c.if-out-lt16.true c.refused.ensures

pub append-requires : goal.append-requires
append-requires c = let a = c.args in append-fits a.s a.p.entry a.log.now a.results.now a.totals.now c.requires.0 c.requires.1

pub returns : goal.returns
returns c = let a = c.args in appended a.s a.p a.log.now a.results.now a.totals.now a.out.now _ _ _ _ _ c.if-out-lt16.false c.append.ensures c.heard.ensures c.with_log-t.ensures c.lower.ensures c.acknowledge.ensures
