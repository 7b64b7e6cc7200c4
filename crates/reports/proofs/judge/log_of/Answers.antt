-- `reports::judge::log_of` meets its contract. Assumes nothing.
use mathlib.Core.Path.{◌≡◌}
use native.Mathlib.Omega.{arith}
use Rattle.numbers.specs.Words.{when◌then◌else◌}
use Prim.Native.Nat.{◌+◌, ◌-◌}
use Rattle.reports.specs.Judge.{log_from}
use Rattle.reports.proofs.judge.log_of.Goals as goal

pub returns-then-new : goal.returns-then-new
unfolding log_from when◌then◌else◌
returns-then-new c = rw c.if-new.true

pub returns : goal.returns
unfolding log_from when◌then◌else◌
returns c = let a = c.args in let e : a.at + a.k - a.at ≡ a.k = omega arith in rw (c.if-new.false, e)
