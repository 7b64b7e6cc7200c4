-- `comparing::answer::clean` meets its contract. Assumes nothing.
use Rattle.std.proofs.Common.{rules}
use Rattle.numbers.specs.Words.{◌or◌}
use Rattle.comparing.specs.Answers.{clean_refusal}
use Rattle.comparing.proofs.answer.clean.Goals as goal

pub returns-then-is_ok : goal.returns-then-is_ok
unfolding clean_refusal ◌or◌
returns-then-is_ok c = search rules

pub returns : goal.returns
unfolding clean_refusal ◌or◌
returns c = search rules
