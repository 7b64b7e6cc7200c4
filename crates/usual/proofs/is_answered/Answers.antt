-- `usual::is_answered` meets its contract. Assumes nothing.
use Rattle.usual.proofs.TestLaws.{short-recovery, by-view}
use Rattle.usual.proofs.is_answered.Goals as goal

pub returns-then-frame-lt20 : goal.returns-then-frame-lt20
returns-then-frame-lt20 c = short-recovery c.args.s.view.0 c.args.frame.now c.if-frame-lt20.true

pub returns : goal.returns
returns c = by-view c.args.s.view.0 c.args.frame.now c.if-frame-lt20.false _ c.read_u32.ensures
