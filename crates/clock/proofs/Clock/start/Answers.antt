-- `clock::Clock::start` meets its contract. Assumes nothing.
use mathlib.Core.Path.{◌≡◌}
use Prim.Native.Nat.{◌+◌, min}
use native.Mathlib.Omega.{arith}
use Rattle.clock.specs.Clock.{start_of}
use Rattle.numbers.specs.Words.{when◌then◌else◌}
use Rattle.clock.proofs.Clock.start.Goals as goal

pub returns-then-again : goal.returns-then-again
unfolding start_of when◌then◌else◌
returns-then-again c =
    let e : c.min-raised.result ≡ min (c.args.self.attempts + 1) 10 = omega arith in
    rw (c.if-again.true, ← e)

pub returns-else-again : goal.returns-else-again
unfolding start_of when◌then◌else◌
returns-else-again c = rw c.if-again.false
