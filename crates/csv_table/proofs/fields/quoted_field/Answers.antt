-- `csv_table::fields::quoted_field` meets its contract: what is put together is a field with its second quote (`quoted-made`), or there is none (`quoted-open`).
-- Assumes nothing.
use mathlib.Core.Path.{◌≡◌, sym, ap, ◌∙◌}
use native.Mathlib.Omega.{arith}
use Prim.Native.Nat.{◌+◌}
use lib.ListN.{get_or, get_or-eq_default}
use Rattle.csv_table.specs.Fields.{field_as}
use Rattle.csv_table.proofs.FieldLaws.{field-made, quoted-open, quoted-made, quoted-fits}
use Rattle.csv_table.proofs.fields.quoted_field.Goals as goal

pub overflow_add-size : goal.overflow_add-size
overflow_add-size c =
    let n = c.stretch-size in
    omega (arith, quoted-fits c.args.s.now n.result n.ensures c.requires)

pub returns-then-s-size : goal.returns-then-s-size
returns-then-s-size c =
    let s = c.args.s.now in
    let n = c.stretch-size in
    let z = get_or-eq_default s 0 {n = 1 + n.result} c.if-s-size.true in
    quoted-open s n.result n.ensures (λ (g : get_or s (1 + n.result) 0 ≡ 34). omega arith)

pub returns-then-s-size-ne34 : goal.returns-then-s-size-ne34
returns-then-s-size-ne34 c =
    let n = c.stretch-size in
    quoted-open c.args.s.now n.result n.ensures c.if-s-size-ne34.true

pub returns-in_err-ends : goal.returns-in_err-ends
returns-in_err-ends c =
    let n = c.stretch-size in
    c.from_residual.ensures
    ∙ ap (field_as 1 n.result 1) (sym c.in_err-ends.was)
    ∙ quoted-made c.args.s.now n.result n.ensures c.ending.result c.if-s-size-ne34.false c.ending.ensures

pub returns : goal.returns
returns c =
    let n = c.stretch-size in
    let k = c.in_ok-ends.ends in
    field-made 1 n.result 1 _ k (omega (arith, c.size.ensures.0))
    ∙ ap (field_as 1 n.result 1) (sym c.in_ok-ends.was)
    ∙ quoted-made c.args.s.now n.result n.ensures c.ending.result c.if-s-size-ne34.false c.ending.ensures
