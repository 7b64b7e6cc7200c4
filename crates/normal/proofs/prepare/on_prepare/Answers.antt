-- `normal::prepare::on_prepare` meets its contract. Assumes nothing.
use Rattle.normal.proofs.CommitLaws.{some, takes, defers}
use Rattle.normal.specs.Prepare.{prepare_step}
use Rattle.normal.proofs.prepare.on_prepare.Goals as goal

pub accept_from_primary-a-requires : goal.accept_from_primary-a-requires
accept_from_primary-a-requires c = some c.args.s _ c.requires

pub returns-then-takes : goal.returns-then-takes
unfolding prepare_step
returns-then-takes c = let a = c.args in takes a.s a.v _ a.out.now _ _ c.accept_from_primary-a.ensures.exact c.takes.ensures _ _ c.if-takes.true c.take_prepare.ensures

pub defer-requires : goal.defer-requires
defer-requires c = some c.args.s _ c.requires

pub returns : goal.returns
unfolding prepare_step
returns c = let a = c.args in defers a.s a.v _ a.out.now _ _ c.accept_from_primary-a.ensures.exact c.takes.ensures _ _ _ c.if-takes.false c.defer.ensures
