-- `state_bytes::flag::status_of` meets its contract. Assumes nothing.
use borrow.Author.Tests.{ne_eqb}
use Rattle.numbers.specs.Words.{when◌then◌else◌}
use Rattle.state_bytes.specs.Layout.{status_of}
use Rattle.state_bytes.proofs.flag.status_of.Goals as goal

pub returns-in-0 : goal.returns-in-0
unfolding status_of when◌then◌else◌
returns-in-0 c = rw c.in-0.is

pub returns-in-1 : goal.returns-in-1
unfolding status_of when◌then◌else◌
returns-in-1 c = rw c.in-1.is

pub returns-in-2 : goal.returns-in-2
unfolding status_of when◌then◌else◌
returns-in-2 c = rw c.in-2.is

pub returns-in_default : goal.returns-in_default
unfolding status_of when◌then◌else◌
returns-in_default c = simp (ne_eqb _ _ c.in_default.in_default-own.rest.1, ne_eqb _ _ c.in_default.in_default-own.rest.0.1, ne_eqb _ _ c.in_default.in_default-own.rest.0.0.1)
