-- `reports::rows::better` meets its contract. Assumes nothing.
use borrow.Author.Tests.{lt-ltb, le-ltb}
use Rattle.numbers.specs.Words.{when◌then◌else◌}
use Rattle.reports.specs.Rows.{better_of}
use Rattle.reports.proofs.rows.better.Goals as goal

pub returns-then-not-d : goal.returns-then-not-d
unfolding better_of when◌then◌else◌
returns-then-not-d c = rw c.if-not-d.true

pub returns-then-not-b : goal.returns-then-not-b
unfolding better_of when◌then◌else◌
returns-then-not-b c = rw (c.if-not-d.false, c.if-not-b.true)

pub returns-then-b-d : goal.returns-then-b-d
unfolding better_of when◌then◌else◌
returns-then-b-d c = rw (c.if-not-d.false, c.if-not-b.false, lt-ltb _ _ c.if-b-d.true)

pub returns-then-d-b : goal.returns-then-d-b
unfolding better_of when◌then◌else◌
returns-then-d-b c =
    rw (
      c.if-not-d.false,
      c.if-not-b.false,
      le-ltb _ _ c.if-b-d.false,
      lt-ltb _ _ c.if-d-b.true,
    )

pub returns-then-b-d-2 : goal.returns-then-b-d-2
unfolding better_of when◌then◌else◌
returns-then-b-d-2 c =
    rw (
      c.if-not-d.false,
      c.if-not-b.false,
      le-ltb _ _ c.if-b-d.false,
      le-ltb _ _ c.if-d-b.false,
      lt-ltb _ _ c.if-b-d-2.true,
    )

pub returns : goal.returns
unfolding better_of when◌then◌else◌
returns c =
    rw (
      c.if-not-d.false,
      c.if-not-b.false,
      le-ltb _ _ c.if-b-d.false,
      le-ltb _ _ c.if-d-b.false,
      le-ltb _ _ c.if-b-d-2.false,
    )
