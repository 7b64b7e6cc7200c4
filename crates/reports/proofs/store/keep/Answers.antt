-- `reports::store::keep` meets its contract. Assumes nothing.
use Rattle.reports.proofs.StoreLaws.{kept-is}
use Rattle.reports.proofs.store.keep.Goals as goal

pub returns : goal.returns
returns c = let a = c.args in kept-is a.room a.id a.o a.fresh.now a.stored.now c.place-at.result c.place-at.ensures c.copy.ensures
