-- `clock::Clock::stable_tick` meets its contract. Assumes nothing.
use mathlib.Core.Path.{◌≡◌}
use Prim.Native.Nat.{◌+◌, min}
use native.Mathlib.Omega.{arith}
use Rattle.clock.specs.Clock.{stable_tick}
use borrow.Author.Tests.{le-leb, lt-leb}
use Rattle.numbers.specs.Words.{when◌then◌else◌}
use Rattle.clock.proofs.Clock.stable_tick.Goals as goal

pub returns-then-timeout-stable : goal.returns-then-timeout-stable
unfolding stable_tick when◌then◌else◌
returns-then-timeout-stable c =
    let e : c.min-stable.result ≡ min (c.args.self.stable + 1) c.args.timeout = omega arith in
    rw (← e, le-leb _ _ c.if-timeout-stable.true)

pub returns-else-timeout-stable : goal.returns-else-timeout-stable
unfolding stable_tick when◌then◌else◌
returns-else-timeout-stable c =
    let e : c.min-stable.result ≡ min (c.args.self.stable + 1) c.args.timeout = omega arith in
    rw (← e, lt-leb _ _ c.if-timeout-stable.false)
