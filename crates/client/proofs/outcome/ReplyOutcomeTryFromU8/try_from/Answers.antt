-- The conversion of a number to an outcome meets its contract. Assumes nothing.
use Rattle.client.specs.Outcomes.{outcome_of}
use Rattle.numbers.specs.Words.{when◌then◌else◌}
use borrow.Author.Tests.{ne_eqb}
use Rattle.client.proofs.outcome.ReplyOutcomeTryFromU8.try_from.Goals as goal

pub returns-in-1 : goal.returns-in-1
unfolding outcome_of when◌then◌else◌
returns-in-1 c = rw c.in-1.is

pub returns-in-2 : goal.returns-in-2
unfolding outcome_of when◌then◌else◌
returns-in-2 c = rw c.in-2.is

pub returns-in-3 : goal.returns-in-3
unfolding outcome_of when◌then◌else◌
returns-in-3 c = rw c.in-3.is

pub returns-in-4 : goal.returns-in-4
unfolding outcome_of when◌then◌else◌
returns-in-4 c = rw c.in-4.is

pub returns-in-5 : goal.returns-in-5
unfolding outcome_of when◌then◌else◌
returns-in-5 c = rw c.in-5.is

pub returns-in-6 : goal.returns-in-6
unfolding outcome_of when◌then◌else◌
returns-in-6 c = rw c.in-6.is

pub returns-in_default : goal.returns-in_default
unfolding outcome_of when◌then◌else◌
returns-in_default c = let r = c.in_default.in_default-own.rest in rw (ne_eqb _ _ r.0.0.0.0.0.1, ne_eqb _ _ r.0.0.0.0.1, ne_eqb _ _ r.0.0.0.1, ne_eqb _ _ r.0.0.1, ne_eqb _ _ r.0.1, ne_eqb _ _ r.1)
