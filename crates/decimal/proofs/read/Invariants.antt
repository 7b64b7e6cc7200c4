-- `decimal::read` meets its contract. The invariant: the whole text is what its first figures, which stand for x, leave of it.
-- Assumes nothing.
use Rattle.decimal.proofs.LeftLaws.{Left}
use Rattle.decimal.proofs.read.Given as goal

abbrev pub invariant-loop-b : goal.invariant-loop-b
invariant-loop-b l = Left l.s l.x l.b-index
