-- `clock::Clock::follow_tick` meets its contract. Assumes nothing.
use Rattle.clock.specs.Clock.{tick_of}
use Rattle.numbers.specs.Words.{when◌then◌else◌}
use Rattle.clock.proofs.Clock.follow_tick.Goals as goal

pub returns-then-self : goal.returns-then-self
unfolding tick_of when◌then◌else◌
returns-then-self c = rw (c.if-self.true, ← c.stable_tick.ensures)

pub returns : goal.returns
unfolding tick_of when◌then◌else◌
returns c = rw c.if-self.false c.wait_tick.ensures
