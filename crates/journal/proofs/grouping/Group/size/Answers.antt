-- `journal::grouping::Group::size` meets its contract. Assumes nothing.
use Rattle.std.proofs.Common.{rules}
use Rattle.journal.specs.Steps.{group_size}
use Rattle.journal.proofs.grouping.Group.size.Goals as goal

pub returns : goal.returns
unfolding group_size
returns c = search rules
