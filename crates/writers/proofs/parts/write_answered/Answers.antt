-- `writers::parts::write_answered` meets its contract: each part stands straight behind the one before. Assumes nothing.
use mathlib.Core.Path.{refl}
use Rattle.numbers.specs.Numbers.{big}
use Rattle.numbers.proofs.RunLaws.{over-lend}
use Rattle.writers.specs.Writers.{header}
use Rattle.writers.proofs.parts.write_answered.Goals as goal

pub returns : goal.returns
unfolding big header
returns c =
    let s2 = over-lend _ _ _ 7 refl c.write_numbered.ensures c.write_u32.ensures in
    let s3 = over-lend _ _ _ 11 refl s2 c.write_u64.ensures in
    over-lend _ _ _ 19 refl s3 c.write_u64-2.ensures
