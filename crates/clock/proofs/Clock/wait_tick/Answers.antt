-- `clock::Clock::wait_tick` meets its contract. Assumes nothing.
use Rattle.clock.specs.Clock.{waited_of, wait_tick}
use Rattle.clock.proofs.Clock.wait_tick.Goals as goal

pub returns : goal.returns
unfolding wait_tick waited_of
returns c = rw (← c.saturating_add-waiting.ensures, ← c.limit.ensures)
