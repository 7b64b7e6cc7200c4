-- `replica_structs::kernel::change_after` meets its contract. Assumes nothing.
use borrow.Author.Rules.{rules}
use borrow.Author.Tests.{tests}
use Rattle.numbers.specs.Words.{when◌then◌else◌}
use Rattle.replica_structs.specs.Core.{change_after}
use Rattle.replica_structs.proofs.kernel.change_after.Goals as goal

pub returns-then-is_err : goal.returns-then-is_err
unfolding change_after when◌then◌else◌
returns-then-is_err c = search (tests, rules)

pub returns : goal.returns
unfolding change_after when◌then◌else◌
returns c = search (tests, rules)
