-- `steps::acknowledge` meets its contract. Assumes nothing.
use native.Mathlib.Omega.{arith}
use Rattle.config.proofs.SetupLaws.{sized}
use Rattle.steps.proofs.StepLaws.{acks-short, acks}
use Rattle.steps.proofs.acknowledge.Goals as goal

pub returns-then-out-lt16 : goal.returns-then-out-lt16
returns-then-out-lt16 c = let a = c.args in acks-short a.s a.t a.k a.installed _ a.out.now _ c.if-out-lt16.true c.refused.ensures

pub send_prepare_ok-w-requires : goal.send_prepare_ok-w-requires
send_prepare_ok-w-requires c = let a = c.args in let z = sized a.t.setup c.requires.0.sized in rw c.commit_up_to-u.ensures.0 (omega (arith, z.three), c.if-out-lt16.false)

pub returns : goal.returns
returns c = let a = c.args in acks a.s a.t a.k a.installed _ a.out.now _ _ _ _ _ c.if-out-lt16.false c.commit_up_to-u.ensures.0 c.commit_up_to-u.ensures.1 c.send_prepare_ok-w.ensures.0 c.send_prepare_ok-w.ensures.1 c.done.ensures
