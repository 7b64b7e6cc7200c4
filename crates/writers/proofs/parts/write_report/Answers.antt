-- `writers::parts::write_report` meets its contract: each part stands straight behind the one before. Assumes nothing.
use mathlib.Core.Path.{refl}
use Rattle.numbers.specs.Numbers.{big}
use Rattle.numbers.proofs.RunLaws.{over-lend}
use Rattle.writers.specs.Writers.{header}
use Rattle.writers.proofs.parts.write_report.Goals as goal

pub returns : goal.returns
unfolding big header
returns c =
    let s2 = over-lend _ _ _ 11 refl c.write_viewed.ensures c.write_u8.ensures in
    over-lend _ _ _ 12 refl s2 c.write_u32.ensures
