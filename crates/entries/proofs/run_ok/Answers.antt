-- `entries::run_ok` meets its contract. Assumes nothing.
use borrow.Author.Tests.{ne_eqb, eq-eqb}
use Rattle.numbers.specs.Words.{◌and◌}
use Rattle.entries.specs.Entries.{run_ok}
use Rattle.entries.proofs.run_ok.Goals as goal

pub returns-then-run-ne0 : goal.returns-then-run-ne0
unfolding ◌and◌ run_ok
returns-then-run-ne0 c = rw (ne_eqb _ _ c.if-run-ne0.true)

pub returns : goal.returns
unfolding ◌and◌ run_ok
returns c = rw (eq-eqb _ _ c.if-run-ne0.false) c.entries_ok.ensures
