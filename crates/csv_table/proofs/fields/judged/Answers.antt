-- `csv_table::fields::judged` meets its contract: one law for each way out.
-- Assumes nothing.
use mathlib.Core.Path.{sym, ◌∙◌}
use borrow.Author.Tests.{not-true, not-false}
use Rattle.csv_table.proofs.FieldLaws.{same-comma, judged-long, judged-last, judged-short, judged-more}
use Rattle.csv_table.proofs.fields.judged.Goals as goal

pub returns-then-eq : goal.returns-then-eq
returns-then-eq c =
    let a = c.args in
    rw c.if-last.true (judged-long a.f a.value (same-comma a.f.ends ∙ sym c.eq.ensures ∙ c.if-eq.true))

pub returns-else-eq : goal.returns-else-eq
returns-else-eq c =
    let a = c.args in
    rw c.if-last.true (judged-last a.f a.value (same-comma a.f.ends ∙ sym c.eq.ensures ∙ c.if-eq.false))

pub returns-then-ne : goal.returns-then-ne
returns-then-ne c =
    let a = c.args in
    rw c.if-last.false (judged-short a.f a.value (same-comma a.f.ends ∙ not-true _ (sym c.ne.ensures ∙ c.if-ne.true)))

pub returns-else-ne : goal.returns-else-ne
returns-else-ne c =
    let a = c.args in
    rw c.if-last.false (judged-more a.f a.value (same-comma a.f.ends ∙ not-false _ (sym c.ne.ensures ∙ c.if-ne.false)))
