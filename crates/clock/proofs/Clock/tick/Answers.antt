-- `clock::Clock::tick` meets its contract. Assumes nothing.
use Rattle.clock.specs.Clock.{tick_of}
use Rattle.clock.proofs.Clock.tick.Goals as goal

pub returns-in-Lead : goal.returns-in-Lead
unfolding tick_of
returns-in-Lead c = rw (c.in-Lead.is, ← c.stable_tick.ensures)

pub returns-in-Change : goal.returns-in-Change
unfolding tick_of
returns-in-Change c = rw c.in-Change.is c.wait_tick.ensures
