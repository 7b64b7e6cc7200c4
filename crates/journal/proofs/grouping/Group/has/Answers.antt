-- `journal::grouping::Group::has` meets its contract. Assumes nothing.
use mathlib.Core.Path.{sym, ◌∙◌}
use borrow.Author.Tests.{lt-ltb, le-ltb}
use Rattle.numbers.proofs.WordLaws.{if-true, if-false}
use Rattle.journal.specs.Steps.{in_group}
use Rattle.journal.proofs.grouping.Group.has.Goals as goal

pub returns-then-member-self : goal.returns-then-member-self
unfolding in_group
returns-then-member-self c = sym (if-true _ _ _ (lt-ltb _ _ c.if-member-self.true))

pub returns-then-member-self-lt64 : goal.returns-then-member-self-lt64
unfolding in_group
returns-then-member-self-lt64 c = sym (if-false _ _ _ (le-ltb _ _ c.if-member-self.false) ∙ if-true _ _ _ (lt-ltb _ _ c.if-member-self-lt64.true))

pub returns : goal.returns
unfolding in_group
returns c = sym (if-false _ _ _ (le-ltb _ _ c.if-member-self.false) ∙ if-false _ _ _ (le-ltb _ _ c.if-member-self-lt64.false))
