-- `state_bytes::part::write_setup` meets its contract: each part stands straight behind the one before. Assumes nothing.
use mathlib.Core.Path.{refl}
use Rattle.numbers.specs.Numbers.{big}
use Rattle.numbers.proofs.RunLaws.{over-lend}
use Rattle.state_bytes.specs.Layout.{encode_setup}
use Rattle.state_bytes.proofs.part.write_setup.Goals as goal

pub returns : goal.returns
unfolding big encode_setup
returns c =
    let s2 = over-lend _ _ _ 1 refl c.write_u8.ensures c.write_u8-2.ensures in
    let s3 = over-lend _ _ _ 2 refl s2 c.write_u16.ensures in
    let s4 = over-lend _ _ _ 4 refl s3 c.write_u32.ensures in
    over-lend _ _ _ 8 refl s4 c.write_u32-2.ensures
