-- `client_bytes::write_client` meets its contract. Assumes nothing.
use mathlib.Core.Path.{refl}
use native.Mathlib.Omega.{arith}
use Rattle.numbers.specs.Numbers.{big}
use Rattle.numbers.proofs.RunLaws.{over-lend}
use Rattle.client_bytes.specs.Layout.{encode_record}
use Rattle.client_bytes.proofs.LayoutLaws.{record-held}
use Rattle.client_bytes.proofs.write_client.Goals as goal

pub returns : goal.returns
unfolding big encode_record
returns c =
    let a = c.args in
    let g = c.well_formed.1.0 in
    let s2 = over-lend _ _ _ 1 refl c.write_u8.ensures c.write_u64.ensures in
    let s3 = over-lend _ _ _ 9 refl s2 c.write_u32.ensures in
    let s4 = over-lend _ _ _ 13 refl s3 c.write_u64-2.ensures in
    let s5 = over-lend _ _ _ 21 refl s4 c.write_pending.ensures.0 in
    record-held a.c a.run.now (omega (arith, g)) (omega (arith, g)) (omega (arith, g)) (omega (arith, g)) c.write_pending.ensures.1 c.requires s5
