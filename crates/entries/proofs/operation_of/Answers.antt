-- `entries::operation_of` meets its contract. Assumes nothing.
use native.Mathlib.Omega.{arith}
use borrow.Author.Tests.{ne_eqb}
use Rattle.numbers.specs.Words.{when◌then◌else◌}
use Rattle.entries.specs.Entries.{operation_of}
use Rattle.entries.proofs.operation_of.Goals as goal

pub returns-in-1 : goal.returns-in-1
unfolding operation_of when◌then◌else◌
returns-in-1 c = rw c.in-1.is

pub returns-in-2 : goal.returns-in-2
unfolding operation_of when◌then◌else◌
returns-in-2 c = rw c.in-2.is

pub returns-in_default : goal.returns-in_default
unfolding operation_of when◌then◌else◌
returns-in_default c = simp (ne_eqb c.args.number 2 (omega arith), ne_eqb c.args.number 1 (omega arith))
