-- `reports::store::install_own` meets its contract. Assumes nothing.
use Rattle.reports.proofs.StoreLaws.{own-stays, own-moves}
use mathlib.Core.Path.{refl}
use Rattle.reports.proofs.store.install_own.Goals as goal

pub returns-then-from-id : goal.returns-then-from-id
returns-then-from-id c = let a = c.args in own-stays a.b a.id a.room a.stored.now a.log.now c.requires.0 c.if-from-id.true

pub returns : goal.returns
returns c = let a = c.args in own-moves a.b a.id a.room a.stored.now a.log.now c.place-at.result c.requires.0 c.if-from-id.false c.place-at.ensures refl c.append_part.ensures
