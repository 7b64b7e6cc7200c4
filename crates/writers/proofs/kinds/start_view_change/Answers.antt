-- `writers::kinds::start_view_change` meets its contract: each part stands straight behind the one before. Assumes nothing.
use mathlib.Core.Path.{refl}
use Rattle.numbers.specs.Numbers.{big}
use Rattle.numbers.proofs.RunLaws.{over-lend}
use Rattle.writers.specs.Writers.{header, encode}
use Rattle.writers.proofs.kinds.start_view_change.Goals as goal

pub returns : goal.returns
unfolding big header encode
returns c =
    record { bytes = over-lend _ _ _ 11 refl c.write_viewed.ensures c.write_u8.ensures; count = refl }
