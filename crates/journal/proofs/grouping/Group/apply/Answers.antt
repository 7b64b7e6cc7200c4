-- `journal::grouping::Group::apply` meets its contract. Assumes nothing.
use native.Mathlib.Omega.{arith}
use Rattle.journal.proofs.GroupLaws.{in-above, size_few}
use Rattle.journal.proofs.grouping.Group.apply.Goals as goal

pub overflow_sub-as_there : goal.overflow_sub-as_there
overflow_sub-as_there c =
    in-above c.args.self.members c.args.self.low c.args.e.member c.requires.own

pub apply-requires : goal.apply-requires
apply-requires c =
    omega (arith, c.size.ensures, size_few c.args.self.members c.args.self.low, c.requires.room)
