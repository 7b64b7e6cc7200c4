-- `reports::rows::count_one` meets its contract. Assumes nothing.
use Rattle.numbers.specs.Words.{when◌then◌else◌}
use Rattle.reports.specs.Rows.{count_one}
use Rattle.reports.proofs.rows.count_one.Goals as goal

pub returns-then-d : goal.returns-then-d
unfolding count_one when◌then◌else◌
returns-then-d c = rw c.if-d.true

pub returns-else-d : goal.returns-else-d
unfolding count_one when◌then◌else◌
returns-else-d c = rw c.if-d.false
