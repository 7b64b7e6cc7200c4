-- `numbers::read_u64` meets its contract. Assumes nothing.
use native.Mathlib.Omega.{arith}
use Rattle.numbers.proofs.NumberLaws.{num-byte, num-more}
use Rattle.numbers.proofs.read_u64.Goals as goal

pub returns : goal.returns
returns c =
    let a = c.args.at in
    let s = c.args.s.now in
    omega (
      arith,
      c.from_be_bytes.ensures,
      num-byte a s (omega arith),
      num-more 1 a s (omega arith),
      num-more 2 a s (omega arith),
      num-more 3 a s (omega arith),
      num-more 4 a s (omega arith),
      num-more 5 a s (omega arith),
      num-more 6 a s (omega arith),
      num-more 7 a s (omega arith),
    )
