-- `comparing::words::letter` meets its contract. Assumes nothing.
use Rattle.std.proofs.Common.{arith}
use Rattle.numbers.specs.Words.{when◌then◌else◌}
use Rattle.comparing.specs.Text.{hex_digit}
use Rattle.comparing.proofs.words.letter.Goals as goal

pub returns-in-0-to-9 : goal.returns-in-0-to-9
unfolding hex_digit when◌then◌else◌
returns-in-0-to-9 c = grind arith

pub returns-in_default : goal.returns-in_default
unfolding hex_digit when◌then◌else◌
returns-in_default c = grind arith
