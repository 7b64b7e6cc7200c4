-- `normal::commit::take_commit` meets its contract. Assumes nothing.
use Rattle.normal.proofs.CommitLaws.{some, past-log, settles}
use Rattle.normal.proofs.commit.take_commit.Goals as goal

pub state_transfer-requires : goal.state_transfer-requires
state_transfer-requires c = some c.args.s _ c.requires

pub returns-then-s-c : goal.returns-then-s-c
returns-then-s-c c = let a = c.args in past-log a.s a.c _ a.out.now _ _ c.if-s-c.true c.state_transfer.ensures

pub returns : goal.returns
returns c = let a = c.args in settles a.s a.c _ a.out.now _ _ _ _ c.if-s-c.false c.heard.ensures c.commit_up_to-t.ensures.0 c.commit_up_to-t.ensures.1 c.done.ensures
