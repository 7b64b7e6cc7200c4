-- `reports::rows::report_ok` meets its contract. Assumes nothing.
use borrow.Author.Tests.{lt-leb, le-leb}
use Rattle.numbers.specs.Words.{when◌then◌else◌}
use Rattle.state.specs.Sound.{report_ok}
use Rattle.reports.proofs.rows.report_ok.Goals as goal

pub returns-then-not-d : goal.returns-then-not-d
unfolding report_ok when◌then◌else◌
returns-then-not-d c = rw c.if-not-d.true c.is_none.ensures

pub returns-then-room-d : goal.returns-then-room-d
unfolding report_ok when◌then◌else◌
returns-then-room-d c = rw (c.if-not-d.false, lt-leb _ _ c.if-room-d.true)

pub returns : goal.returns
unfolding report_ok when◌then◌else◌
returns c = rw (c.if-not-d.false, le-leb _ _ c.if-room-d.false)
