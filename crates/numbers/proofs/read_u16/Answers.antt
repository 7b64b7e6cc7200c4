-- `numbers::read_u16` meets its contract. Assumes nothing.
use native.Mathlib.Omega.{arith}
use Rattle.numbers.proofs.NumberLaws.{num-byte, num-more}
use Rattle.numbers.proofs.read_u16.Goals as goal

pub returns : goal.returns
returns c =
    let a = c.args.at in
    let s = c.args.s.now in
    omega (
      arith,
      c.from_be_bytes.ensures,
      num-byte a s (omega arith),
      num-more 1 a s (omega arith),
    )
