-- `steps::ask_state` meets its contract. Assumes nothing.
use Rattle.steps.proofs.StepLaws.{asks-short, asks}
use Rattle.steps.proofs.ask_state.Goals as goal

pub returns-then-out-lt16 : goal.returns-then-out-lt16
returns-then-out-lt16 c = asks-short c.args.s c.args.t c.args.at c.args.out.now _ c.if-out-lt16.true c.refused.ensures

pub returns : goal.returns
returns c = asks c.args.s c.args.t c.args.at c.args.out.now _ _ _ _ c.if-out-lt16.false c.primary_id-to.ensures.0 c.get_state-w.ensures c.done.ensures
