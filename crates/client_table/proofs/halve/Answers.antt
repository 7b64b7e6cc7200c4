-- `client_table::halve` meets its contract. Assumes nothing.
use Rattle.numbers.specs.Words.{when◌then◌else◌}
use Rattle.client_table.specs.Search.{halved}
use Rattle.client_table.proofs.halve.Goals as goal

pub returns-then-up : goal.returns-then-up
unfolding halved when◌then◌else◌
returns-then-up c = rw (c.if-up.true, c.middle-m.ensures.0)

pub returns : goal.returns
unfolding halved when◌then◌else◌
returns c = rw (c.if-up.false, c.middle-m.ensures.0)
