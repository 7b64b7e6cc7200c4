-- `frames::shape::count_response` meets its contract. Assumes nothing.
use borrow.Author.Tests.{eq-eqb, ne_eqb}
use Rattle.numbers.specs.Words.{when◌then◌else◌}
use Rattle.frames.proofs.shape.count_response.Goals as goal

pub returns-then-read_u8-eq1 : goal.returns-then-read_u8-eq1
unfolding when◌then◌else◌
returns-then-read_u8-eq1 c = rw (← c.read_u8.ensures, eq-eqb _ _ c.if-read_u8-eq1.true) c.read_u32.ensures

pub returns : goal.returns
unfolding when◌then◌else◌
returns c = rw (← c.read_u8.ensures, ne_eqb _ _ c.if-read_u8-eq1.false)
