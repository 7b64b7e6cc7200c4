-- `journal::totals_there` meets its contract. Assumes nothing.
use Rattle.numbers.specs.Words.{◌and◌}
use Rattle.journal.specs.Calls.{totals_there}
use Rattle.journal.proofs.totals_there.Goals as goal

pub returns-then-not-within : goal.returns-then-not-within
unfolding ◌and◌ totals_there
returns-then-not-within c = rw (← c.within.ensures, c.if-not-within.true)

pub returns : goal.returns
unfolding ◌and◌ totals_there
returns c = rw (← c.within.ensures, c.if-not-within.false)
