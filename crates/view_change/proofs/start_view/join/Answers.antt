-- `view_change::start_view::join` meets its contract. Assumes nothing.
use mathlib.Core.Path.{◌∙◌}
use Rattle.view_change.proofs.StartViewLaws.{joins-short, part-fits, joins}
use Rattle.view_change.proofs.start_view.join.Goals as goal

pub returns-then-out-lt16 : goal.returns-then-out-lt16
returns-then-out-lt16 c = let a = c.args in joins-short a.s a.v a.o a.c a.part.now a.log.now a.results.now a.totals.now a.acks.now a.out.now _ c.if-out-lt16.true c.refused.ensures

pub append_part-requires : goal.append_part-requires
append_part-requires c = let a = c.args in part-fits a.s a.v a.o a.c a.part.now a.log.now a.results.now a.totals.now a.acks.now a.out.now c.requires.0 c.requires.1.0 c.requires.1.1.0 c.requires.1.1.1.0

pub returns : goal.returns
returns c = let a = c.args in joins a.s a.v a.o a.c a.part.now a.log.now a.results.now a.totals.now a.acks.now a.out.now _ _ _ _ _ _ _ c.if-out-lt16.false (c.with_log-t.ensures ∙ rw c.enter_normal.ensures) c.append_part.ensures c.fill.ensures c.acknowledge.ensures
