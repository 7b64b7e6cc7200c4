-- `usual::is_leading` meets its contract. Assumes nothing.
use mathlib.Core.Path.{sym, ap, ◌∙◌}
use mathlib.Core.Bool.{not}
use Rattle.usual.proofs.TestLaws.{no-setup, not-leading, by-primary}
use Rattle.usual.proofs.is_leading.Goals as goal

pub returns-then-s-eq0 : goal.returns-then-s-eq0
returns-then-s-eq0 c = no-setup c.args.s c.if-s-eq0.true

pub returns-then-not-is_normal : goal.returns-then-not-is_normal
returns-then-not-is_normal c = not-leading c.args.s c.if-s-eq0.false (ap not (sym c.is_normal.ensures) ∙ (ap not c.if-not-is_normal.true))

pub returns : goal.returns
returns c = c.is_primary.ensures ∙ by-primary c.args.s c.if-s-eq0.false (ap not (sym c.is_normal.ensures) ∙ (ap not c.if-not-is_normal.false))
