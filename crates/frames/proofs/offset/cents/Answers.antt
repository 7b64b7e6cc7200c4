-- `frames::offset::cents` meets its contract. Assumes nothing.
use borrow.Author.Tests.{ne_eqb}
use Rattle.numbers.specs.Words.{when◌then◌else◌}
use Rattle.offsets.specs.Rules.{number_reach}
use Rattle.frames.specs.FrameRules.{cents_rule}
use Rattle.frames.proofs.offset.cents.Goals as goal

pub returns-then-operation-eq3 : goal.returns-then-operation-eq3
unfolding cents_rule number_reach when◌then◌else◌
returns-then-operation-eq3 c = rw c.if-operation-eq3.true c.number.ensures

pub returns : goal.returns
unfolding cents_rule number_reach when◌then◌else◌
returns c = rw (ne_eqb _ _ c.if-operation-eq3.false) c.number-2.ensures
