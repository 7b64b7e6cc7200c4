-- `view_change::start_view::weigh_log` meets its contract. Assumes nothing.
use Rattle.view_change.proofs.StartViewLaws.{keep-fits, keeps-ours, alters-ours}
use Rattle.view_change.proofs.start_view.weigh_log.Goals as goal

pub keeps-requires : goal.keeps-requires
keeps-requires c = let a = c.args in keep-fits a.s a.o a.part.now a.log.now c.requires.0 c.requires.1.0 c.requires.1.1

pub returns-then-keeps : goal.returns-then-keeps
returns-then-keeps c = let a = c.args in keeps-ours a.s a.o a.part.now a.log.now _ c.keeps.ensures c.if-keeps.true

pub returns : goal.returns
returns c = let a = c.args in alters-ours a.s a.o a.part.now a.log.now _ c.keeps.ensures c.if-keeps.false
