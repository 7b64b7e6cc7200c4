-- `writers::kinds::recovery` meets its contract: each part stands straight behind the one before. Assumes nothing.
use mathlib.Core.Path.{refl}
use Rattle.numbers.specs.Numbers.{big}
use Rattle.numbers.proofs.RunLaws.{over-lend}
use Rattle.writers.specs.Writers.{header, encode}
use Rattle.writers.proofs.kinds.recovery.Goals as goal

pub returns : goal.returns
unfolding big header encode
returns c =
    let s2 = over-lend _ _ _ 7 refl c.write_header.ensures c.write_u8.ensures in
    let s3 = over-lend _ _ _ 8 refl s2 c.write_u64.ensures in
    record { bytes = over-lend _ _ _ 16 refl s3 c.write_u32.ensures; count = refl }
