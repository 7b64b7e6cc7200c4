-- `frames::offset::is_good` meets its contract. Assumes nothing.
use borrow.Author.Tests.{le-leb, lt-leb}
use lib.ListN.{length-drop}
use Rattle.numbers.specs.Words.{◌and◌}
use Rattle.frames.proofs.offset.is_good.Goals as goal

pub returns-then-s-at-lt32 : goal.returns-then-s-at-lt32
unfolding ◌and◌
returns-then-s-at-lt32 c = let a = c.args in rw (length-drop a.at a.s.now, lt-leb _ _ c.if-s-at-lt32.true)

pub returns : goal.returns
unfolding ◌and◌
returns c =
    let a = c.args in
    rw (length-drop a.at a.s.now, le-leb _ _ c.if-s-at-lt32.false) c.entry_ok.ensures
