-- `normal::prepare::weigh` meets its contract. Assumes nothing.
use Rattle.normal.proofs.PrepareLaws.{misses, resent, next}
use Rattle.normal.proofs.VerdictLaws.{weighs-prepare}
use Rattle.normal.proofs.prepare.weigh.Goals as goal

pub returns-then-next-p : goal.returns-then-next-p
returns-then-next-p c = weighs-prepare _ _ _ (misses c.args.s c.args.p c.if-next-p.true)

pub returns-then-p-next : goal.returns-then-p-next
returns-then-p-next c = weighs-prepare _ _ _ (resent c.args.s c.args.p c.if-next-p.false c.if-p-next.true)

pub returns : goal.returns
returns c = weighs-prepare _ _ _ (next c.args.s c.args.p _ c.if-next-p.false c.if-p-next.false c.weigh_append.ensures)
