-- `journal::examining::result_fault` meets its contract. Assumes nothing.
use borrow.Author.Tests.{ne_eqb, eq-eqb}
use Rattle.numbers.specs.Words.{when◌then◌else◌}
use Rattle.journal.specs.Examining.{result_fault}
use Rattle.journal.proofs.examining.result_fault.Goals as goal

pub returns-then-stands-given : goal.returns-then-stands-given
unfolding when◌then◌else◌ result_fault
returns-then-stands-given c = rw (ne_eqb _ _ c.if-stands-given.true)

pub returns-then-stands-given-2 : goal.returns-then-stands-given-2
unfolding when◌then◌else◌ result_fault
returns-then-stands-given-2 c = rw (eq-eqb _ _ c.if-stands-given.false, ne_eqb _ _ c.if-stands-given-2.true)

pub returns : goal.returns
unfolding when◌then◌else◌ result_fault
returns c = rw (eq-eqb _ _ c.if-stands-given.false, eq-eqb _ _ c.if-stands-given-2.false)
