-- `reports::store::install` meets its contract. Assumes nothing.
use Rattle.reports.proofs.StoreLaws.{install-fits, install-is, their-length}
use Rattle.reports.proofs.store.install.Goals as goal

pub append_part-requires : goal.append_part-requires
append_part-requires c = let a = c.args in let f = install-fits a.b a.id a.room a.stored.now a.fresh.now a.log.now c.requires.0 c.requires.1 in (f.0, (f.1, their-length a.b a.id a.room a.stored.now a.fresh.now a.log.now c.requires.0 c.requires.1 c.chosen_log-theirs.result.now c.chosen_log-theirs.ensures))

pub returns : goal.returns
returns c = let a = c.args in install-is a.b a.id a.room a.stored.now a.fresh.now a.log.now c.requires.0 c.requires.1 c.chosen_log-theirs.result.now c.chosen_log-theirs.ensures c.append_part.ensures
