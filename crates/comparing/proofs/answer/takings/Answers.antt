-- `comparing::answer::takings` meets its contract. Assumes nothing.
use Rattle.std.proofs.Common.{rules}
use Rattle.comparing.specs.Answers.{takings_are}
use Rattle.comparing.proofs.answer.takings.Goals as goal

pub returns-in-Ok : goal.returns-in-Ok
unfolding takings_are
returns-in-Ok c = search rules

pub returns-in-Err : goal.returns-in-Err
unfolding takings_are
returns-in-Err c = search rules
