-- `replica::call::found_for` meets its contract. Assumes nothing.
use Rattle.std.proofs.Common.{rules, arith, ap, Some}
use Rattle.replica.specs.Calls.{found_by, found_for}
use Rattle.replica.proofs.call.found_for.Goals as goal

pub returns-in_err-client : goal.returns-in_err-client
unfolding found_for found_by
returns-in_err-client c = rw (← c.in_err-client.ensures) (grind arith)

pub returns : goal.returns
unfolding found_for found_by
returns c = rw (← c.in_ok-client.ensures) (ap Some c.find.ensures)
