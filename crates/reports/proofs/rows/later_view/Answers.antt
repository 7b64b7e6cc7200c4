-- `reports::rows::later_view` meets its contract. Assumes nothing.
use borrow.Author.Tests.{lt-ltb, le-ltb}
use Rattle.numbers.specs.Words.{when◌then◌else◌}
use Rattle.reports.specs.Rows.{later_view}
use Rattle.reports.proofs.rows.later_view.Goals as goal

pub returns-then-not-d : goal.returns-then-not-d
unfolding later_view when◌then◌else◌
returns-then-not-d c = rw c.if-not-d.true

pub returns-then-v-d : goal.returns-then-v-d
unfolding later_view when◌then◌else◌
returns-then-v-d c = rw (c.if-not-d.false, lt-ltb _ _ c.if-v-d.true)

pub returns : goal.returns
unfolding later_view when◌then◌else◌
returns c = rw (c.if-not-d.false, le-ltb _ _ c.if-v-d.false)
