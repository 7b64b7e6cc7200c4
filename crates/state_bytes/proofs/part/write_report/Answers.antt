-- `state_bytes::part::write_report` meets its contract: each part stands straight behind the one before. Assumes nothing.
use mathlib.Core.Path.{refl}
use native.Mathlib.Omega.{arith}
use Rattle.numbers.specs.Numbers.{big}
use Rattle.numbers.proofs.RunLaws.{over-lend}
use Rattle.state_bytes.specs.Layout.{encode_report}
use Rattle.state_bytes.proofs.part.write_report.Goals as goal

pub returns : goal.returns
unfolding big encode_report
returns c =
    let g = c.well_formed.1.0 in
    let s2 = over-lend _ _ _ 1 refl c.write_flag.ensures c.write_flag-2.ensures in
    let s3 = over-lend _ _ _ 2 refl s2 c.write_u32.ensures in
    let s4 = over-lend _ _ _ 6 refl s3 c.write_u32-2.ensures in
    (over-lend _ _ _ 10 refl s4 c.write_u32-3.ensures, record { view = omega (arith, g); op = omega (arith, g); commit = omega (arith, g) })
