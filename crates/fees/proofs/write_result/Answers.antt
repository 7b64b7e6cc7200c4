-- `fees::write_result` meets its contract. Assumes nothing.
use mathlib.Core.Path.{refl}
use Rattle.numbers.specs.Numbers.{big}
use Rattle.numbers.proofs.RunLaws.{over-lend}
use Rattle.fees.specs.Results.{encode_result}
use Rattle.fees.proofs.write_result.Goals as goal

pub returns : goal.returns
unfolding big encode_result
returns c = over-lend _ _ _ 1 refl c.write_u8.ensures c.write_u64.ensures
