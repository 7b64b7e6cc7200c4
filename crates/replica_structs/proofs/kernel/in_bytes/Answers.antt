-- `replica_structs::kernel::in_bytes` meets its contract. Assumes nothing.
use borrow.Author.Rules.{rules}
use borrow.Author.Tests.{tests}
use Rattle.numbers.specs.Words.{when◌then◌else◌}
use Rattle.replica_structs.specs.Core.{row_bytes}
use Rattle.replica_structs.proofs.kernel.in_bytes.Goals as goal

pub returns-then-rows-gt4096 : goal.returns-then-rows-gt4096
unfolding row_bytes when◌then◌else◌
returns-then-rows-gt4096 c = search (tests, rules)

pub returns : goal.returns
unfolding row_bytes when◌then◌else◌
returns c = search (tests, rules)
