-- `writers::parts::write_viewed` meets its contract: each part stands straight behind the one before. Assumes nothing.
use mathlib.Core.Path.{refl}
use Rattle.numbers.specs.Numbers.{big}
use Rattle.numbers.proofs.RunLaws.{over-lend}
use Rattle.writers.specs.Writers.{header}
use Rattle.writers.proofs.parts.write_viewed.Goals as goal

pub returns : goal.returns
unfolding big header
returns c =
    over-lend _ _ _ 7 refl c.write_header.ensures c.write_u32.ensures
