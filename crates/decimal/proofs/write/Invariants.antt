-- `decimal::write` meets its contract. The invariant: the figures of x but the first i stand in the area, and those first i are the figures of y.
-- Assumes nothing.
use Rattle.decimal.proofs.DoneLaws.{Done}
use Rattle.decimal.proofs.write.Given as goal

abbrev pub invariant-loop-i : goal.invariant-loop-i
invariant-loop-i l = Done l.initial.area l.area l.x l.y l.i
