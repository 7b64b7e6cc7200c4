-- `csv_table::fields::plain_field` meets its contract: a stretch and its end are put together (`plain-made`), and a stretch stands within what is left.
-- Assumes nothing.
use mathlib.Core.Path.{sym, ap, ◌∙◌}
use native.Mathlib.Omega.{arith}
use Rattle.csv_table.specs.Fields.{field_as}
use Rattle.csv_table.proofs.FieldLaws.{field-made, plain-made, stretch-le}
use Rattle.csv_table.proofs.fields.plain_field.Goals as goal

pub slice_bounds-ending-count : goal.slice_bounds-ending-count
slice_bounds-ending-count c = omega (arith, stretch-le c.args.s.now)

pub slice_bounds-ending-start : goal.slice_bounds-ending-start
slice_bounds-ending-start c = omega (arith, stretch-le c.args.s.now)

pub returns-in_err-ends : goal.returns-in_err-ends
returns-in_err-ends c =
    let n = c.stretch-size in
    c.from_residual.ensures ∙ ap (field_as 0 n.result 0) (sym c.in_err-ends.was) ∙ plain-made c.args.s.now n.result c.ending.result n.ensures c.ending.ensures

pub overflow_add-result : goal.overflow_add-result
overflow_add-result c = omega (arith, stretch-le c.args.s.now)

pub returns : goal.returns
returns c =
    let n = c.stretch-size in
    let k = c.in_ok-ends.ends in
    field-made 0 n.result 0 _ k (omega (arith, c.size.ensures.0))
    ∙ ap (field_as 0 n.result 0) (sym c.in_ok-ends.was)
    ∙ plain-made c.args.s.now n.result c.ending.result n.ensures c.ending.ensures
