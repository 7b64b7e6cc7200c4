-- `state_bytes::part::write_clock` meets its contract: each part stands straight behind the one before. Assumes nothing.
use mathlib.Core.Path.{refl}
use Rattle.numbers.specs.Numbers.{big}
use Rattle.numbers.proofs.RunLaws.{over-lend}
use Rattle.state_bytes.specs.Layout.{encode_clock}
use Rattle.state_bytes.proofs.part.write_clock.Goals as goal

pub returns : goal.returns
unfolding big encode_clock
returns c =
    let s2 = over-lend _ _ _ 1 refl c.write_flag.ensures c.write_u32.ensures in
    let s3 = over-lend _ _ _ 5 refl s2 c.write_u16.ensures in
    over-lend _ _ _ 7 refl s3 c.write_u8.ensures
