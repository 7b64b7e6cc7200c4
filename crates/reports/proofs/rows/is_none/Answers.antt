-- `reports::rows::is_none` meets its contract. Assumes nothing.
use Rattle.state.specs.Sound.{is_none}
use Rattle.numbers.specs.Words.{when◌then◌else◌}
use borrow.Author.Tests.{eq-eqb, ne_eqb}
use Rattle.reports.proofs.rows.is_none.Goals as goal

pub returns-then-d : goal.returns-then-d
unfolding is_none when◌then◌else◌
returns-then-d c = rw c.if-d.true

pub returns-then-d-2 : goal.returns-then-d-2
unfolding is_none when◌then◌else◌
returns-then-d-2 c = rw (c.if-d.false, c.if-d-2.true)

pub returns-then-d-ne0 : goal.returns-then-d-ne0
unfolding is_none when◌then◌else◌
returns-then-d-ne0 c = rw (c.if-d.false, c.if-d-2.false, ne_eqb _ 0 c.if-d-ne0.true)

pub returns-then-d-ne0-2 : goal.returns-then-d-ne0-2
unfolding is_none when◌then◌else◌
returns-then-d-ne0-2 c = rw (c.if-d.false, c.if-d-2.false, eq-eqb _ 0 c.if-d-ne0.false, ne_eqb _ 0 c.if-d-ne0-2.true)

pub returns : goal.returns
unfolding is_none when◌then◌else◌
returns c = rw (c.if-d.false, c.if-d-2.false, eq-eqb _ 0 c.if-d-ne0.false, eq-eqb _ 0 c.if-d-ne0-2.false)
