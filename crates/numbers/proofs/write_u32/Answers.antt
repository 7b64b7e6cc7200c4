-- `numbers::write_u32` meets its contract. Assumes nothing.
use native.Mathlib.Nat.{div-one}
use Rattle.numbers.specs.Numbers.{big}
use Rattle.numbers.proofs.write_u32.Goals as goal

pub returns : goal.returns
unfolding big
returns c = rw div-one (rw c.to_be_bytes.ensures at c.copy.ensures)
