-- `journal::writing::ops_there` meets its contract. Assumes nothing.
use borrow.Author.Tests.{le-leb, lt-leb}
use Rattle.numbers.specs.Words.{◌and◌}
use Rattle.journal.specs.Calls.{ops_there}
use Rattle.journal.proofs.writing.ops_there.Goals as goal

pub returns-then-to-from : goal.returns-then-to-from
unfolding ◌and◌ ops_there
returns-then-to-from c = rw (lt-leb _ _ c.if-to-from.true)

pub returns-then-to-gt4096 : goal.returns-then-to-gt4096
unfolding ◌and◌ ops_there
returns-then-to-gt4096 c = rw (le-leb _ _ c.if-to-from.false, lt-leb _ _ c.if-to-gt4096.true)

pub returns-then-log-entry_place : goal.returns-then-log-entry_place
unfolding ◌and◌ ops_there
returns-then-log-entry_place c =
    rw (le-leb _ _ c.if-to-from.false, le-leb _ _ c.if-to-gt4096.false, ← c.entry_place.ensures, lt-leb _ _ c.if-log-entry_place.true)

pub returns : goal.returns
unfolding ◌and◌ ops_there
returns c =
    rw (le-leb _ _ c.if-to-from.false, le-leb _ _ c.if-to-gt4096.false, ← c.entry_place.ensures, le-leb _ _ c.if-log-entry_place.false, c.result_place.ensures)
