-- `client::framed` meets its contract. Assumes nothing.
use Rattle.client.specs.Replies.{reply_framed}
use Rattle.numbers.specs.Words.{◌and◌}
use borrow.Author.Tests.{eq-eqb, ne_eqb}
use Rattle.client.proofs.framed.Goals as goal

pub returns-then-frame-ne36 : goal.returns-then-frame-ne36
unfolding reply_framed ◌and◌
returns-then-frame-ne36 c = rw (ne_eqb _ _ c.if-frame-ne36.true)

pub returns-then-read_u32-ne32 : goal.returns-then-read_u32-ne32
unfolding reply_framed ◌and◌
returns-then-read_u32-ne32 c = rw (eq-eqb _ _ c.if-frame-ne36.false, ← c.read_u32.ensures, ne_eqb _ _ c.if-read_u32-ne32.true)

pub returns-then-read_u8-ne1 : goal.returns-then-read_u8-ne1
unfolding reply_framed ◌and◌
returns-then-read_u8-ne1 c = rw (eq-eqb _ _ c.if-frame-ne36.false, ← c.read_u32.ensures, eq-eqb _ _ c.if-read_u32-ne32.false, ← c.read_u8.ensures, ne_eqb _ _ c.if-read_u8-ne1.true)

pub returns-then-kind_of-ne12 : goal.returns-then-kind_of-ne12
unfolding reply_framed ◌and◌
returns-then-kind_of-ne12 c = rw (eq-eqb _ _ c.if-frame-ne36.false, ← c.read_u32.ensures, eq-eqb _ _ c.if-read_u32-ne32.false, ← c.read_u8.ensures, eq-eqb _ _ c.if-read_u8-ne1.false, ← c.kind_of.ensures, ne_eqb _ _ c.if-kind_of-ne12.true)

pub returns : goal.returns
unfolding reply_framed ◌and◌
returns c = rw (eq-eqb _ _ c.if-frame-ne36.false, ← c.read_u32.ensures, eq-eqb _ _ c.if-read_u32-ne32.false, ← c.read_u8.ensures, eq-eqb _ _ c.if-read_u8-ne1.false, ← c.kind_of.ensures, eq-eqb _ _ c.if-kind_of-ne12.false, ← c.read_u8-2.ensures)
