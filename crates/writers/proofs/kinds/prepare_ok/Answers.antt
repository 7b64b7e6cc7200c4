-- `writers::kinds::prepare_ok` meets its contract: each part stands straight behind the one before. Assumes nothing.
use mathlib.Core.Path.{refl}
use Rattle.numbers.specs.Numbers.{big}
use Rattle.numbers.proofs.RunLaws.{over-lend}
use Rattle.writers.specs.Writers.{header, encode}
use Rattle.writers.proofs.kinds.prepare_ok.Goals as goal

pub returns : goal.returns
unfolding big header encode
returns c =
    let s2 = over-lend _ _ _ 11 refl c.write_viewed.ensures c.write_u32.ensures in
    record { bytes = over-lend _ _ _ 15 refl s2 c.write_u8.ensures; count = refl }
