-- `normal::prepare_ok::weigh` meets its contract. Assumes nothing.
use Rattle.normal.proofs.PrepareOkLaws.{no-row, known, one_more, past-log, no-area, fires}
use mathlib.Core.Path.{sym, ◌∙◌}
use Rattle.normal.proofs.CountLaws.{weighs-ack}
use Rattle.normal.proofs.prepare_ok.weigh.Goals as goal

pub returns-then-held-eq0 : goal.returns-then-held-eq0
returns-then-held-eq0 c = let a = c.args in weighs-ack _ _ _ _ _ _ (no-row a.s a.op a.held a.from a.room c.if-held-eq0.true)

pub returns-then-has : goal.returns-then-has
returns-then-has c = let a = c.args in weighs-ack _ _ _ _ _ _ (known a.s a.op a.held a.from a.room c.if-held-eq0.false (sym c.has.ensures ∙ c.if-has.true))

pub returns-then-count-quorum : goal.returns-then-count-quorum
returns-then-count-quorum c = let a = c.args in weighs-ack _ _ _ _ _ _ (one_more a.s a.op a.held a.from a.room c.if-held-eq0.false _ _ _ (sym c.has.ensures ∙ c.if-has.false) c.insert.ensures c.count.ensures c.quorum.ensures c.if-count-quorum.true)

pub returns-then-s-op : goal.returns-then-s-op
returns-then-s-op c = let a = c.args in weighs-ack _ _ _ _ _ _ (past-log a.s a.op a.held a.from a.room c.if-held-eq0.false _ _ _ (sym c.has.ensures ∙ c.if-has.false) c.insert.ensures c.count.ensures c.quorum.ensures c.if-count-quorum.false c.if-s-op.true)

pub returns-then-room-op : goal.returns-then-room-op
returns-then-room-op c = let a = c.args in weighs-ack _ _ _ _ _ _ (no-area a.s a.op a.held a.from a.room c.if-held-eq0.false _ _ _ (sym c.has.ensures ∙ c.if-has.false) c.insert.ensures c.count.ensures c.quorum.ensures c.if-count-quorum.false c.if-s-op.false c.if-room-op.true)

pub returns : goal.returns
returns c = let a = c.args in weighs-ack _ _ _ _ _ _ (fires a.s a.op a.held a.from a.room c.if-held-eq0.false _ _ _ (sym c.has.ensures ∙ c.if-has.false) c.insert.ensures c.count.ensures c.quorum.ensures c.if-count-quorum.false c.if-s-op.false c.if-room-op.false)
