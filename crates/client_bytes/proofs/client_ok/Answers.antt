-- `client_bytes::client_ok` meets its contract. Assumes nothing.
use borrow.Author.Tests.{ne_eqb}
use Rattle.numbers.specs.Words.{when◌then◌else◌}
use Rattle.client_bytes.specs.Layout.{record_ok}
use Rattle.client_bytes.proofs.client_ok.Goals as goal

pub returns-then-run-ne54 : goal.returns-then-run-ne54
unfolding record_ok when◌then◌else◌
returns-then-run-ne54 c = rw (ne_eqb _ _ c.if-run-ne54.true)

pub returns : goal.returns
unfolding record_ok when◌then◌else◌
returns c = rw (c.if-run-ne54.false, c.read_u8.ensures)
