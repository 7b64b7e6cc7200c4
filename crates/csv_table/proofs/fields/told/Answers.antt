-- `csv_table::fields::told` meets its contract: the content stands within what is left (`field-within`), and the lent part is it (`told-made`).
-- Assumes nothing.
use mathlib.Core.Path.{sym, ap, ◌∙◌}
use Prim.Native.Nat.{ℕ}
use native.Mathlib.Omega.{arith}
use lib.Dec.{eqb}
use Rattle.std.specs.Prelude.{Option, ok_or, Result, Err}
use Rattle.std.specs.Result.{result_ok}
use Rattle.std.proofs.lemmas.Result.{err_from_is_err_and}
use Rattle.csv_table.specs.Refusal.{◌>>=◌}
use Rattle.csv_table.specs.Fields.{content, sense, judged_field}
use Rattle.csv_table.specs.declared.Field.{Field}
use Rattle.csv_table.specs.declared.refusal.FieldFault.{FieldFault}
use Rattle.csv_table.specs.declared.refusal.FieldFault.TheVariants.{Quotes, Value}
use Rattle.csv_table.proofs.FieldLaws.{field-within, told-is, told-made}
use Rattle.csv_table.proofs.fields.told.Goals as goal

pub returns-in_err-f : goal.returns-in_err-f
returns-in_err-f c =
    let a = c.args in
    let p = err_from_is_err_and c.from_residual.result c.from_residual.ensures.1 in
    p.1
    ∙ ap Err p.2
    ∙ ap (λ (r : Result Field FieldFault). r >>= λ f. ok_or (sense a.i a.k a.operation (content f a.s.now)) Value >>= judged_field (eqb a.k 5) f)
    (sym c.in_err-f.was ∙ c.ok_or.ensures.value ∙ ap (λ (x : Option Field). ok_or x Quotes) c.field.ensures)
    ∙ told-is a.i a.k a.operation a.s.now

pub overflow_add-content : goal.overflow_add-content
overflow_add-content c =
    let e = sym c.field.ensures ∙ c.ok_or.ensures.ok_part ∙ ap (λ (r : Result Field FieldFault). result_ok r) c.in_ok-f.was in
    omega (arith, (field-within c.args.s.now c.in_ok-f.f e).1)

pub slice_bounds-content-end : goal.slice_bounds-content-end
slice_bounds-content-end c =
    let e = sym c.field.ensures ∙ c.ok_or.ensures.ok_part ∙ ap (λ (r : Result Field FieldFault). result_ok r) c.in_ok-f.was in
    omega (arith, (field-within c.args.s.now c.in_ok-f.f e).1)

pub returns-in_err-value : goal.returns-in_err-value
returns-in_err-value c =
    let a = c.args in
    let f = c.in_ok-f.f in
    let e = sym c.field.ensures ∙ c.ok_or.ensures.ok_part ∙ ap (λ (r : Result Field FieldFault). result_ok r) c.in_ok-f.was in
    let p = err_from_is_err_and c.from_residual-in_err-value.result c.from_residual-in_err-value.ensures.1 in
    p.1
    ∙ ap Err p.2
    ∙ ap (λ (r : Result ℕ FieldFault). r >>= judged_field (eqb a.k 5) f) (sym c.in_err-value.was ∙ c.ok_or-2.ensures.value)
    ∙ told-made a.i a.k a.operation a.s.now f e c.sense.result c.sense.ensures

pub returns : goal.returns
returns c =
    let a = c.args in
    let f = c.in_ok-f.f in
    let e = sym c.field.ensures ∙ c.ok_or.ensures.ok_part ∙ ap (λ (r : Result Field FieldFault). result_ok r) c.in_ok-f.was in
    c.judged.ensures
    ∙ ap (λ (r : Result ℕ FieldFault). r >>= judged_field (eqb a.k 5) f) (sym c.in_ok-value.was ∙ c.ok_or-2.ensures.value)
    ∙ told-made a.i a.k a.operation a.s.now f e c.sense.result c.sense.ensures
