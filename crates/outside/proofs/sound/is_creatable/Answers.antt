-- `outside::sound::is_creatable` meets its contract. Assumes nothing.
use Rattle.numbers.specs.Words.{when◌then◌else◌}
use Rattle.outside.specs.Sound.{creatable}
use Rattle.outside.proofs.sound.is_creatable.Goals as goal

pub returns-then-not-setup_ok : goal.returns-then-not-setup_ok
unfolding creatable when◌then◌else◌
returns-then-not-setup_ok c = rw (← c.setup_ok.ensures, c.if-not-setup_ok.true)

pub returns : goal.returns
unfolding creatable when◌then◌else◌
returns c = rw (← c.setup_ok.ensures, c.if-not-setup_ok.false) c.lengths_ok.ensures
