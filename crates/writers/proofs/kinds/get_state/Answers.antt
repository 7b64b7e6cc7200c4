-- `writers::kinds::get_state` meets its contract: each part stands straight behind the one before. Assumes nothing.
use mathlib.Core.Path.{refl}
use Rattle.numbers.specs.Numbers.{big}
use Rattle.numbers.proofs.RunLaws.{over-lend}
use Rattle.writers.specs.Writers.{header, encode}
use Rattle.writers.proofs.kinds.get_state.Goals as goal

pub returns : goal.returns
unfolding big header encode
returns c =
    let s2 = over-lend _ _ _ 7 refl c.write_header.ensures c.write_u8.ensures in
    let s3 = over-lend _ _ _ 8 refl s2 c.write_u32.ensures in
    record { bytes = over-lend _ _ _ 12 refl s3 c.write_u32-2.ensures; count = refl }
