-- `writers::parts::write_numbered` meets its contract: each part stands straight behind the one before. Assumes nothing.
use mathlib.Core.Path.{refl}
use Rattle.numbers.specs.Numbers.{big}
use Rattle.numbers.proofs.RunLaws.{over-lend}
use Rattle.writers.specs.Writers.{header}
use Rattle.writers.proofs.parts.write_numbered.Goals as goal

pub returns : goal.returns
unfolding big header
returns c =
    let s2 = over-lend _ _ _ 4 refl c.write_u32.ensures c.write_u8.ensures in
    let s3 = over-lend _ _ _ 5 refl s2 c.write_u8-2.ensures in
    over-lend _ _ _ 6 refl s3 c.write_u8-3.ensures
