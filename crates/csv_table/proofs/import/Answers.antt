-- `csv_table::import` meets its contract, way by way: a bad row, no room, and the entries copied. Assumes nothing.
use mathlib.Core.Path.{ap, ◌∙◌}
use Rattle.std.specs.Prelude.{Result, Err}
use Rattle.std.proofs.lemmas.Result.{err_from_is_err_and}
use Prim.Native.Nat.{ℕ}
use Rattle.csv_table.specs.declared.refusal.CsvRefusal.{CsvRefusal}
use Rattle.csv_table.proofs.CopyLaws.{import-bad, import-some, import-good, import-full, imported}
use Rattle.csv_table.proofs.import.Goals as goal

pub returns-in_err-rows : goal.returns-in_err-rows
returns-in_err-rows c =
    let a = c.args in
    let p = err_from_is_err_and c.from_residual.result c.from_residual.ensures.1 in
    ap (λ (x : Result ℕ CsvRefusal). record { answer = x; area = a.area.now }) (p.1 ∙ ap Err p.2)
    ∙ import-bad a.file.now a.area.now c.scan.result c.scan.ensures c.in_err-rows.field-0.0 c.in_err-rows.was

pub overflow_sub-n : goal.overflow_sub-n
overflow_sub-n c =
    let a = c.args in
    import-some a.file.now a.area.now c.scan.result c.scan.ensures c.in_ok-rows.rows c.in_ok-rows.was

pub returns-then-area-n : goal.returns-then-area-n
returns-then-area-n c =
    let a = c.args in
    import-full a.file.now a.area.now c.scan.result c.scan.ensures c.in_ok-rows.rows c.in_ok-rows.was c.if-area-n.true

pub copy_entries-requires-clause-good : goal.copy_entries-requires-clause-good
copy_entries-requires-clause-good c =
    let a = c.args in
    import-good a.file.now a.area.now c.scan.result c.scan.ensures c.in_ok-rows.rows c.in_ok-rows.was

pub returns : goal.returns
returns c =
    let a = c.args in
    imported a.file.now a.area.now c.scan.result c.scan.ensures c.in_ok-rows.rows c.in_ok-rows.was _ c.if-area-n.false c.copy_entries.ensures
