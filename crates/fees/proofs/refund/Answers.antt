-- `fees::refund` meets its contract. Assumes nothing.
use mathlib.Core.Path.{◌≡◌}
use Prim.Native.Nat.{◌-◌}
use native.Mathlib.Omega.{arith}
use Rattle.fees.proofs.FeeLaws.{refund-past, refund-paid}
use Rattle.fees.proofs.refund.Goals as goal

pub returns-in-None : goal.returns-in-None
returns-in-None c = refund-past _ _ (omega (arith, c.in-None.ensures))

pub returns-in-Some : goal.returns-in-Some
returns-in-Some c =
    let e : c.in-Some.rest ≡ c.args.total - c.args.cents = c.in-Some.ensures.1 in
    rw e (refund-paid c.args.total c.args.cents c.in-Some.ensures.0)
