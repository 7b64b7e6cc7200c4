-- `replica::call::latest_found` meets its contract. Assumes nothing.
use Rattle.std.proofs.Common.{rules}
use Rattle.replica.specs.Calls.{latest_found}
use Rattle.replica.proofs.call.latest_found.Goals as goal

pub returns-in-Some : goal.returns-in-Some
unfolding latest_found
returns-in-Some c = search rules

pub returns-in-None : goal.returns-in-None
unfolding latest_found
returns-in-None c = search rules
