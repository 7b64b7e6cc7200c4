-- `steps::send_prepare_ok` meets its contract. Assumes nothing.
use Rattle.steps.proofs.StepLaws.{prepares-ok}
use Rattle.steps.proofs.send_prepare_ok.Goals as goal

pub returns : goal.returns
returns c = prepares-ok c.args.s c.args.out.now _ _ _ c.primary_id-to.ensures.0 c.prepare_ok.ensures
