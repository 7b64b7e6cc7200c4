-- `writers::write_reply` meets its contract: each part stands straight behind the one before. Assumes nothing.
use mathlib.Core.Path.{refl}
use Rattle.numbers.specs.Numbers.{big}
use Rattle.numbers.proofs.RunLaws.{over-lend}
use Rattle.writers.specs.Writers.{header, reply}
use Rattle.writers.proofs.write_reply.Goals as goal

pub returns : goal.returns
unfolding big header reply
returns c =
    let s2 = over-lend _ _ _ 27 refl c.write_answered.ensures c.write_u8.ensures in
    record { bytes = over-lend _ _ _ 28 refl s2 c.write_u64.ensures; count = refl }
