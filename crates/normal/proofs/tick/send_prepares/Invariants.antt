-- `normal::tick::send_prepares` meets its contract. Assumes nothing.
use Rattle.normal.proofs.TickLaws.{Sent}
use Rattle.normal.proofs.tick.send_prepares.Given as goal

abbrev pub invariant-loop-i : goal.invariant-loop-i
invariant-loop-i l = Sent l.s l.log l.initial.out l.out l.at l.i
