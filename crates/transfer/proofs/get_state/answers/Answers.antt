-- `transfer::get_state::answers` meets its contract. Assumes nothing.
use mathlib.Core.Path.{sym, ◌∙◌, ap}
use mathlib.Core.Bool.{not}
use Rattle.transfer.proofs.GetStateLaws.{absent, elsewhere, here}
use Rattle.transfer.proofs.get_state.answers.Goals as goal

pub returns-then-not-is_normal : goal.returns-then-not-is_normal
returns-then-not-is_normal c =
    let a = c.args in
    absent a.s a.v a.o (ap not (sym c.is_normal.ensures) ∙ (ap not c.if-not-is_normal.true))

pub returns-then-v-s : goal.returns-then-v-s
returns-then-v-s c =
    let a = c.args in
    elsewhere a.s a.v a.o
    (ap not (sym c.is_normal.ensures) ∙ (ap not c.if-not-is_normal.false)) c.if-v-s.true

pub returns : goal.returns
returns c =
    let a = c.args in
    here a.s a.v a.o
    (ap not (sym c.is_normal.ensures) ∙ (ap not c.if-not-is_normal.false))
    c.if-v-s.false
