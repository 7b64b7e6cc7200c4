-- `steps::accept_from_primary` meets its contract. Assumes nothing.
use mathlib.Core.Path.{sym, ◌∙◌, ap}
use mathlib.Core.Bool.{not}
use Rattle.steps.proofs.StepLaws.{older, newer, changing, absent, leading, follows}
use Rattle.steps.proofs.AcceptLaws.{accepts}
use Rattle.steps.proofs.accept_from_primary.Goals as goal

pub returns-then-v-s : goal.returns-then-v-s
returns-then-v-s c = accepts _ _ _ (older c.args.s c.args.v c.if-v-s.true)

pub returns-then-s-v : goal.returns-then-s-v
returns-then-s-v c = accepts _ _ _ (newer c.args.s c.args.v c.if-v-s.false c.if-s-v.true)

pub returns-then-is_changing : goal.returns-then-is_changing
returns-then-is_changing c = accepts _ _ _ (changing c.args.s c.args.v c.if-v-s.false c.if-s-v.false _ (sym c.is_changing.ensures ∙ c.if-is_changing.true) c.accept_changing.ensures)

pub returns-then-not-is_normal : goal.returns-then-not-is_normal
returns-then-not-is_normal c = accepts _ _ _ (absent c.args.s c.args.v c.if-v-s.false c.if-s-v.false (sym c.is_changing.ensures ∙ c.if-is_changing.false) (ap not (sym c.is_normal.ensures) ∙ (ap not c.if-not-is_normal.true)))

pub returns-then-is_primary : goal.returns-then-is_primary
returns-then-is_primary c = accepts _ _ _ (leading c.args.s c.args.v c.if-v-s.false c.if-s-v.false (sym c.is_changing.ensures ∙ c.if-is_changing.false) (ap not (sym c.is_normal.ensures) ∙ (ap not c.if-not-is_normal.false)) (sym c.is_primary.ensures ∙ c.if-is_primary.true))

pub returns : goal.returns
returns c = accepts _ _ _ (follows c.args.s c.args.v c.if-v-s.false c.if-s-v.false (sym c.is_changing.ensures ∙ c.if-is_changing.false) (ap not (sym c.is_normal.ensures) ∙ (ap not c.if-not-is_normal.false)) (sym c.is_primary.ensures ∙ c.if-is_primary.false))
