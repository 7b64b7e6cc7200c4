-- `decimal::width` meets its contract: the power of ten that a number reaches says how many figures it has.
-- Assumes nothing.
use native.Mathlib.Omega.{arith}
use Rattle.decimal.proofs.FigureLaws.{length-one}
use Rattle.decimal.proofs.DecimalLaws.{decimal-long}
use Rattle.decimal.proofs.width.Goals as goal

pub returns-in-Some : goal.returns-in-Some
returns-in-Some c =
    let s = c.in-Some in
    let e = decimal-long c.args.x s.k s.ensures.power_le s.ensures.next_power_gt in
    (omega arith, omega (arith, s.ensures.bound))

pub returns-in-None : goal.returns-in-None
returns-in-None c =
    let e = length-one c.args.x (omega (arith, c.in-None.ensures.none)) in
    (omega arith, omega arith)
