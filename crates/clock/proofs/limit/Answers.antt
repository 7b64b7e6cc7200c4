-- `clock::limit` meets its contract. Assumes nothing.
use Rattle.clock.proofs.ClockLaws.{limit-fits}
use Rattle.clock.specs.Clock.{limit_of}
use native.Mathlib.Omega.{arith}
use Rattle.clock.proofs.limit.Goals as goal

pub returns : goal.returns
unfolding limit_of
returns c = rw (← c.min.ensures) (limit-fits c.args.timeout c.min.result (omega arith) (omega arith))
