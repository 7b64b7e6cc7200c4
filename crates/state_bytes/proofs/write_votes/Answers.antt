-- `state_bytes::write_votes` meets its contract: each part stands straight behind the one before. Assumes nothing.
use mathlib.Core.Path.{refl}
use Rattle.numbers.specs.Numbers.{big}
use Rattle.numbers.proofs.RunLaws.{over-lend}
use Rattle.state_bytes.specs.Layout.{encode_votes}
use Rattle.state_bytes.proofs.write_votes.Goals as goal

pub returns : goal.returns
unfolding big encode_votes
returns c =
    let s2 = over-lend _ _ _ 1 refl c.write_u8.ensures c.write_flag.ensures in
    over-lend _ _ _ 2 refl s2 c.write_u64.ensures
