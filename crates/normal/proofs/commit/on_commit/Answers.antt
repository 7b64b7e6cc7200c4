-- `normal::commit::on_commit` meets its contract. Assumes nothing.
use Rattle.normal.proofs.CommitLaws.{some, takes, defers}
use Rattle.normal.specs.Commit.{commit_step}
use Rattle.normal.proofs.commit.on_commit.Goals as goal

pub accept_from_primary-a-requires : goal.accept_from_primary-a-requires
accept_from_primary-a-requires c = some c.args.s _ c.requires

pub returns-then-takes : goal.returns-then-takes
unfolding commit_step
returns-then-takes c = let a = c.args in takes a.s a.v _ a.out.now _ _ c.accept_from_primary-a.ensures.exact c.takes.ensures _ _ c.if-takes.true c.take_commit.ensures

pub defer-requires : goal.defer-requires
defer-requires c = some c.args.s _ c.requires

pub returns : goal.returns
unfolding commit_step
returns c = let a = c.args in defers a.s a.v _ a.out.now _ _ c.accept_from_primary-a.ensures.exact c.takes.ensures _ _ _ c.if-takes.false c.defer.ensures
