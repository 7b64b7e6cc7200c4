-- on_idle in StateTransfer, of a tick after which the wait isn't over: GetState again, from our op number on. Assumes nothing.
use Rattle.std.specs.Prelude.{List, ℕ}
use Rattle.clock.specs.declared.Clock.{Clock}
use Rattle.state.specs.State.{with_clock}
use Rattle.state.specs.declared.Replica.{Replica}
use Rattle.steps.specs.Steps.{Spoke, asked_for_state}

-- c is the clock after the tick
unfoldable pub transfer_tick : Replica → Clock → List ℕ → Spoke
transfer_tick s c out = asked_for_state s (with_clock s c) s.op out
