-- `transfer::new_state::use_of` meets its contract. Assumes nothing.
use mathlib.Core.Path.{sym, ◌∙◌}
use Rattle.transfer.proofs.NewStateLaws.{elsewhere, waiting, changing, hears}
use Rattle.transfer.proofs.UseLaws.{uses}
use Rattle.transfer.proofs.new_state.use_of.Goals as goal

pub returns-then-v-s : goal.returns-then-v-s
returns-then-v-s c = let a = c.args in uses _ _ _ _ (elsewhere a.s a.v a.p c.if-v-s.true)

pub returns-then-is_transfer : goal.returns-then-is_transfer
returns-then-is_transfer c =
    let a = c.args in
    uses _ _ _ _
    (waiting a.s a.v a.p c.if-v-s.false _
    (sym c.is_transfer.ensures ∙ c.if-is_transfer.true) c.use_in_transfer.ensures)

pub returns-then-is_changing : goal.returns-then-is_changing
returns-then-is_changing c =
    let a = c.args in
    uses _ _ _ _
    (changing a.s a.v a.p c.if-v-s.false _
    (sym c.is_transfer.ensures ∙ c.if-is_transfer.false)
    (sym c.is_changing.ensures ∙ c.if-is_changing.true) c.use_in_change.ensures)

pub returns : goal.returns
returns c =
    let a = c.args in
    uses _ _ _ _
    (hears a.s a.v a.p c.if-v-s.false
    (sym c.is_transfer.ensures ∙ c.if-is_transfer.false)
    (sym c.is_changing.ensures ∙ c.if-is_changing.false))
