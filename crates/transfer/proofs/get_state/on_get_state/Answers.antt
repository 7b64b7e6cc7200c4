-- `transfer::get_state::on_get_state` meets its contract. Assumes nothing.
use mathlib.Core.Path.{sym, ◌∙◌, ap}
use mathlib.Core.Bool.{not}
use native.Mathlib.Omega.{arith}
use Rattle.transfer.proofs.GetStateLaws.{has, starts, new-state-fits, unanswered, short, answered}
use Rattle.transfer.proofs.get_state.on_get_state.Goals as goal

pub returns-then-not-answers : goal.returns-then-not-answers
returns-then-not-answers c =
    let a = c.args in
    unanswered a.s a.from a.v a.o a.log.now a.out.now _
    (ap not (sym c.answers.ensures) ∙ (ap not c.if-not-answers.true)) c.done.ensures

pub overflow_sub-k : goal.overflow_sub-k
overflow_sub-k c =
    let a = c.args in
    has a.s a.v a.o (ap not (sym c.answers.ensures) ∙ (ap not c.if-not-answers.false))

pub returns-then-out-k : goal.returns-then-out-k
returns-then-out-k c =
    let a = c.args in
    short a.s a.from a.v a.o a.log.now a.out.now _
    (ap not (sym c.answers.ensures) ∙ (ap not c.if-not-answers.false))
    c.if-out-k.true c.refused.ensures

pub slice_bounds-new_state-count : goal.slice_bounds-new_state-count
slice_bounds-new_state-count c =
    let a = c.args in
    omega
    (arith, c.entry_place-p.ensures, (starts a.s a.o a.log.now c.requires (has a.s a.v a.o (ap not (sym c.answers.ensures) ∙ (ap not c.if-not-answers.false)))).1)

pub slice_bounds-new_state-start : goal.slice_bounds-new_state-start
slice_bounds-new_state-start c =
    let a = c.args in
    omega
    (arith, c.entry_place-p.ensures, (starts a.s a.o a.log.now c.requires (has a.s a.v a.o (ap not (sym c.answers.ensures) ∙ (ap not c.if-not-answers.false)))).1)

pub new_state-w-requires : goal.new_state-w-requires
new_state-w-requires c =
    let a = c.args in
    new-state-fits a.s a.o a.log.now
    c.requires
    (has a.s a.v a.o (ap not (sym c.answers.ensures) ∙ (ap not c.if-not-answers.false)))
    c.entry_place-p.result a.out.now c.entry_place-p.ensures
    c.if-out-k.false

pub returns : goal.returns
returns c =
    let a = c.args in
    answered a.s a.from a.v a.o a.log.now a.out.now _
    c.entry_place-p.result _ _
    c.requires
    (ap not (sym c.answers.ensures) ∙ (ap not c.if-not-answers.false))
    c.if-out-k.false
    c.entry_place-p.ensures c.new_state-w.ensures
    c.done-2.ensures
