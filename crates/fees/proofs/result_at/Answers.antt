-- `fees::result_at` meets its contract. Assumes nothing.
use Rattle.fees.proofs.ResultLaws.{result_of-at}
use Rattle.fees.proofs.result_at.Goals as goal

pub returns : goal.returns
returns c = let a = c.args in result_of-at a.s.now a.at c.read_u8.ensures c.read_u64.ensures
