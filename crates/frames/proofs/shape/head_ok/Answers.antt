-- `frames::shape::head_ok` meets its contract. Assumes nothing.
use borrow.Author.Tests.{lt-leb, le-leb, eq-eqb, ne_eqb}
use Rattle.numbers.specs.Words.{◌and◌}
use Rattle.frames.specs.Kinds.{head_ok}
use Rattle.frames.proofs.shape.head_ok.Goals as goal

pub returns-then-n-lt7 : goal.returns-then-n-lt7
unfolding head_ok ◌and◌
returns-then-n-lt7 c = rw (lt-leb _ _ c.if-n-lt7.true)

pub returns-then-read_u32-n : goal.returns-then-read_u32-n
unfolding head_ok ◌and◌
returns-then-read_u32-n c = rw (le-leb _ _ c.if-n-lt7.false, ← c.read_u32.ensures, ne_eqb _ _ c.if-read_u32-n.true)

pub returns : goal.returns
unfolding head_ok ◌and◌
returns c = rw (le-leb _ _ c.if-n-lt7.false, ← c.read_u32.ensures, eq-eqb _ _ c.if-read_u32-n.false, ← c.read_u8.ensures)
