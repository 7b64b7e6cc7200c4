-- `fees::fee` meets its contract. Assumes nothing.
use mathlib.Core.Path.{◌≡◌}
use Prim.Native.Nat.{◌+◌}
use native.Mathlib.Omega.{arith}
use Rattle.fees.proofs.FeeLaws.{fee-past, fee-taken}
use Rattle.fees.proofs.fee.Goals as goal

pub returns-in-Some : goal.returns-in-Some
returns-in-Some c =
    let e : c.in-Some.sum ≡ c.args.total + c.args.cents = c.in-Some.ensures.1 in
    rw e (fee-taken c.args.total c.args.cents (omega arith))

pub returns-in_default : goal.returns-in_default
returns-in_default c = fee-past _ _ (omega (arith, c.in-Some.ensures.1))

pub returns-in_default-2 : goal.returns-in_default-2
returns-in_default-2 c = fee-past _ _ (omega (arith, c.in_default.ensures))
