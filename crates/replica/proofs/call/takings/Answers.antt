-- `replica::call::takings` meets its contract. Assumes nothing.
use Rattle.replica.proofs.TakingsLaws.{takings-promised}
use Rattle.replica.proofs.call.takings.Goals as goal

pub returns : goal.returns
returns c = takings-promised c.args.s _ c.takings.ensures
