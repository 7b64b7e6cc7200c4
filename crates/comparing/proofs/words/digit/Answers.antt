-- `comparing::words::digit` meets its contract. Assumes nothing.
use Rattle.std.proofs.Common.{arith}
use Rattle.numbers.specs.Words.{when◌then◌else◌}
use Rattle.comparing.specs.Text.{digit_of}
use Rattle.comparing.proofs.words.digit.Goals as goal

pub returns-in-48-to-57 : goal.returns-in-48-to-57
unfolding digit_of when◌then◌else◌
returns-in-48-to-57 c = grind arith

pub returns-in-97-to-102 : goal.returns-in-97-to-102
unfolding digit_of when◌then◌else◌
returns-in-97-to-102 c = grind arith

pub returns-in_default : goal.returns-in_default
unfolding digit_of when◌then◌else◌
returns-in_default c = grind arith

pub returns-in_default-2 : goal.returns-in_default-2
unfolding digit_of when◌then◌else◌
returns-in_default-2 c = grind arith

pub returns-in_default-3 : goal.returns-in_default-3
unfolding digit_of when◌then◌else◌
returns-in_default-3 c = grind arith
