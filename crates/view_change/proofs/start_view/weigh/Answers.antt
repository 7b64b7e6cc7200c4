-- `view_change::start_view::weigh` meets its contract. Assumes nothing.
use mathlib.Core.Path.{sym, ap, ◌∙◌}
use mathlib.Core.Bool.{not}
use Rattle.view_change.proofs.StartViewLaws.{older, newer, known, awaited}
use Rattle.view_change.proofs.StartViewNumberLaws.{weighs-start-view}
use Rattle.view_change.proofs.start_view.weigh.Goals as goal

pub returns-then-v-s : goal.returns-then-v-s
returns-then-v-s c = let a = c.args in weighs-start-view _ _ _ _ _ _ (older a.s a.o a.part.now a.log.now a.v c.if-v-s.true)

pub returns-then-s-v : goal.returns-then-s-v
returns-then-s-v c = let a = c.args in weighs-start-view _ _ _ _ _ _ (newer a.s a.o a.part.now a.log.now a.v c.if-v-s.false _ c.if-s-v.true c.weigh_log.ensures)

pub returns-then-not-is_changing : goal.returns-then-not-is_changing
returns-then-not-is_changing c = let a = c.args in weighs-start-view _ _ _ _ _ _ (known a.s a.o a.part.now a.log.now a.v c.if-v-s.false c.if-s-v.false (ap not (sym c.is_changing.ensures) ∙ (ap not c.if-not-is_changing.true)))

pub returns : goal.returns
returns c = let a = c.args in weighs-start-view _ _ _ _ _ _ (awaited a.s a.o a.part.now a.log.now a.v c.if-v-s.false _ c.if-s-v.false (ap not (sym c.is_changing.ensures) ∙ (ap not c.if-not-is_changing.false)) c.weigh_log-2.ensures)
