-- `reports::rows::greater_commit` meets its contract. Assumes nothing.
use borrow.Author.Tests.{lt-ltb, le-ltb}
use Rattle.numbers.specs.Words.{when◌then◌else◌}
use Rattle.reports.specs.Rows.{greater_commit}
use Rattle.reports.proofs.rows.greater_commit.Goals as goal

pub returns-then-not-d : goal.returns-then-not-d
unfolding greater_commit when◌then◌else◌
returns-then-not-d c = rw c.if-not-d.true

pub returns-then-g-d : goal.returns-then-g-d
unfolding greater_commit when◌then◌else◌
returns-then-g-d c = rw (c.if-not-d.false, lt-ltb _ _ c.if-g-d.true)

pub returns : goal.returns
unfolding greater_commit when◌then◌else◌
returns c = rw (c.if-not-d.false, le-ltb _ _ c.if-g-d.false)
