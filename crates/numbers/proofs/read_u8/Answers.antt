-- `numbers::read_u8` meets its contract. Assumes nothing.
use mathlib.Core.Path.{sym}
use native.Mathlib.Omega.{arith}
use Rattle.numbers.proofs.NumberLaws.{num-byte}
use Rattle.numbers.proofs.read_u8.Goals as goal

pub returns : goal.returns
returns c = sym (num-byte c.args.at c.args.s.now (omega arith))
