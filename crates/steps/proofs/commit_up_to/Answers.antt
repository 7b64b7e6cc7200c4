-- `steps::commit_up_to` meets its contract. Assumes nothing.
use Rattle.steps.proofs.StepLaws.{commits-fit}
use Rattle.steps.proofs.StepLaws.{commits-nothing, commits}
use Rattle.steps.proofs.commit_up_to.Goals as goal

pub returns-then-k-s : goal.returns-then-k-s
returns-then-k-s c = let a = c.args in commits-nothing a.s a.k a.log.now a.results.now a.totals.now c.if-k-s.true

pub commit_up_to-takings-requires : goal.commit_up_to-takings-requires
commit_up_to-takings-requires c = let a = c.args in commits-fit a.s a.k a.log.now a.results.now a.totals.now c.requires.0 c.requires.1 c.if-k-s.false

pub returns : goal.returns
returns c = let a = c.args in commits a.s a.k a.log.now a.results.now a.totals.now _ _ _ _ c.if-k-s.false c.with_commit.ensures c.commit_up_to-takings.ensures
