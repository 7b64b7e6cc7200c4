-- `playing::say::takings` meets its contract. Assumes nothing.
use Rattle.std.proofs.Common.{rules}
use Rattle.comparing.specs.Answers.{takings_are}
use Rattle.playing.proofs.say.takings.Goals as goal

pub returns-in-Err : goal.returns-in-Err
unfolding takings_are
returns-in-Err c = search rules
