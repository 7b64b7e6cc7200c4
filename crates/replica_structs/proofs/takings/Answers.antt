-- `replica_structs::takings` meets its contract. Assumes nothing.
use Rattle.replica.proofs.TakingsLaws.{takings-promised}
use Rattle.replica_structs.proofs.takings.Goals as goal

pub returns : goal.returns
returns c = takings-promised c.args.s _ c.takings.ensures
