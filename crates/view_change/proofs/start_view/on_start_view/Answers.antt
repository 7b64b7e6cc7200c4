-- `view_change::start_view::on_start_view` meets its contract. Assumes nothing.
use Rattle.view_change.proofs.StartViewLaws.{join-keeps, does-nothing, refuses, joins-it}
use mathlib.Core.Path.{sym, ◌∙◌}
use Rattle.view_change.proofs.start_view.on_start_view.Goals as goal

pub join-requires : goal.join-requires
join-requires c = let a = c.args in (c.requires.0, (c.requires.1.0, (join-keeps a.s a.o a.part.now a.log.now a.v (sym c.weigh.ensures.exact ∙ c.in-Join.is), (c.requires.1.1.0, c.requires.1.1.1))))

pub returns-in-Ignore : goal.returns-in-Ignore
returns-in-Ignore c = let a = c.args in does-nothing a.s a.v a.o a.c a.part.now a.log.now a.results.now a.totals.now a.acks.now a.out.now _ c.weigh.ensures.exact _ c.in-Ignore.is c.done.ensures

pub returns-in-Refuse : goal.returns-in-Refuse
returns-in-Refuse c = let a = c.args in refuses a.s a.v a.o a.c a.part.now a.log.now a.results.now a.totals.now a.acks.now a.out.now _ c.weigh.ensures.exact _ c.in-Refuse.is c.refused.ensures

pub returns-in-Join : goal.returns-in-Join
returns-in-Join c = let a = c.args in joins-it a.s a.v a.o a.c a.part.now a.log.now a.results.now a.totals.now a.acks.now a.out.now _ c.weigh.ensures.exact _ c.in-Join.is c.join.ensures
