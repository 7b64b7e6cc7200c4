-- `view_change::start_view::send_start_view` meets its contract. Assumes nothing.
use Rattle.view_change.proofs.StartViewLaws.{sends-short, send-fits, sends}
use Rattle.view_change.proofs.start_view.send_start_view.Goals as goal

pub returns-then-out-s : goal.returns-then-out-s
returns-then-out-s c = let a = c.args in sends-short a.s a.to a.log.now a.out.now _ c.if-out-s.true c.refused.ensures

pub start_view-w-requires : goal.start_view-w-requires
start_view-w-requires c = let a = c.args in send-fits a.s a.to a.log.now a.out.now c.requires c.if-out-s.false

pub returns : goal.returns
returns c = let a = c.args in sends a.s a.to a.log.now a.out.now c.requires _ _ _ c.if-out-s.false c.start_view-w.ensures c.done.ensures
