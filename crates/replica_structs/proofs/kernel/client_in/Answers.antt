-- `replica_structs::kernel::client_in` meets its contract. Assumes nothing.
use borrow.Author.Rules.{rules}
use Rattle.replica_structs.specs.Core.{client_in}
use Rattle.replica_structs.proofs.kernel.client_in.Goals as goal

pub returns-in-Err : goal.returns-in-Err
unfolding client_in
returns-in-Err c = search rules

pub returns-in-Ok : goal.returns-in-Ok
unfolding client_in
returns-in-Ok c = search rules
