-- `csv_table::fields::field` meets its contract: a text that is empty begins with no quote.
-- Assumes nothing.
use mathlib.Core.Path.{sym, ◌∙◌}
use native.Mathlib.Omega.{arith}
use lib.ListN.{get_or, get_or-eq_default}
use borrow.Author.Tests.{eqb-true, eq-eqb, ne_eqb}
use Rattle.numbers.proofs.WordLaws.{if-true, if-false}
use Rattle.csv_table.specs.Fields.{field_at_front}
use Rattle.csv_table.proofs.fields.field.Goals as goal

pub returns-then-is_empty : goal.returns-then-is_empty
unfolding field_at_front
returns-then-is_empty c =
    let s = c.args.s.now in
    let n = eqb-true _ _ (sym c.is_empty.ensures ∙ c.if-is_empty.true) in
    let z = get_or-eq_default s 0 {n = 0} (omega (arith, n)) in
    c.plain_field.ensures ∙ sym (if-false _ _ _ (ne_eqb (get_or s 0 0) 34 (λ e. omega arith)))

pub returns-then-s-eq34 : goal.returns-then-s-eq34
unfolding field_at_front
returns-then-s-eq34 c = c.quoted_field.ensures ∙ sym (if-true _ _ _ (eq-eqb _ _ c.if-s-eq34.true))

pub returns : goal.returns
unfolding field_at_front
returns c = c.plain_field-2.ensures ∙ sym (if-false _ _ _ (ne_eqb _ _ c.if-s-eq34.false))
