-- `replica_structs::latest_in` meets its contract. Assumes nothing.
use Rattle.std.proofs.Common.{rules}
use Rattle.replica_structs.specs.Calls.{latest_in}
use Rattle.replica_structs.proofs.latest_in.Goals as goal

pub returns-in-Some : goal.returns-in-Some
unfolding latest_in
returns-in-Some c = search rules

pub returns-in-None : goal.returns-in-None
unfolding latest_in
returns-in-None c = search rules
