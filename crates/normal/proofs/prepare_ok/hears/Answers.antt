-- `normal::prepare_ok::hears` meets its contract. Assumes nothing.
use Rattle.normal.proofs.PrepareOkLaws.{other-view, not-primary, not-normal, last-test}
use mathlib.Core.Path.{ap, sym, ◌∙◌}
use mathlib.Core.Bool.{not}
use Rattle.normal.proofs.prepare_ok.hears.Goals as goal

pub returns-then-v-s : goal.returns-then-v-s
returns-then-v-s c = let a = c.args in other-view a.s a.v a.op c.if-v-s.true

pub returns-then-not-is_primary : goal.returns-then-not-is_primary
returns-then-not-is_primary c = let a = c.args in not-primary a.s a.v a.op c.if-v-s.false (ap not (sym c.is_primary.ensures) ∙ (ap not c.if-not-is_primary.true))

pub returns-then-not-is_normal : goal.returns-then-not-is_normal
returns-then-not-is_normal c = let a = c.args in not-normal a.s a.v a.op c.if-v-s.false (ap not (sym c.is_primary.ensures) ∙ (ap not c.if-not-is_primary.false)) (ap not (sym c.is_normal.ensures) ∙ (ap not c.if-not-is_normal.true))

pub returns : goal.returns
returns c = let a = c.args in last-test a.s a.v a.op c.if-v-s.false (ap not (sym c.is_primary.ensures) ∙ (ap not c.if-not-is_primary.false)) (ap not (sym c.is_normal.ensures) ∙ (ap not c.if-not-is_normal.false))
