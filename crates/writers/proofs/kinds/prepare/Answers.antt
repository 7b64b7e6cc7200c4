-- `writers::kinds::prepare` meets its contract: each part stands straight behind the one before. Assumes nothing.
use mathlib.Core.Path.{refl}
use Rattle.numbers.specs.Numbers.{big}
use Rattle.numbers.proofs.RunLaws.{over-lend}
use Rattle.writers.specs.Writers.{header, encode}
use Rattle.entries.specs.Entries.{encode_entry}
use Rattle.writers.proofs.kinds.prepare.Goals as goal

pub returns : goal.returns
unfolding big header encode encode_entry
returns c =
    let s2 = over-lend _ _ _ 11 refl c.write_viewed.ensures c.write_u32.ensures in
    let s3 = over-lend _ _ _ 15 refl s2 c.write_u32-2.ensures in
    record { bytes = over-lend _ _ _ 19 refl s3 c.write_entry.ensures; count = refl }
