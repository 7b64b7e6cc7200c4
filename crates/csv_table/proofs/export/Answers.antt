-- `csv_table::export` meets its contract: each refusal in its order, or the table over the front of the area. Assumes nothing.
use mathlib.Core.Path.{ap, sym, ◌∙◌}
use mathlib.Core.Bool.{not}
use borrow.Author.Tests.{leb-true}
use Rattle.csv_table.proofs.ExportLaws.{export-bad, export-long, export-done}
use Rattle.csv_table.proofs.export.Goals as goal

pub returns-then-not-run_ok : goal.returns-then-not-run_ok
returns-then-not-run_ok c =
    let a = c.args in
    export-bad a.run.now a.area.now (ap not (sym c.run_ok.ensures) ∙ (ap not c.if-not-run_ok.true))

pub returns-then-not-fits : goal.returns-then-not-fits
returns-then-not-fits c =
    let a = c.args in
    export-long a.run.now a.area.now (ap not (sym c.run_ok.ensures) ∙ (ap not c.if-not-run_ok.false)) (sym c.fits.ensures ∙ c.if-not-fits.true)

pub returns : goal.returns
returns c =
    let a = c.args in
    export-done a.run.now a.area.now _ _ (ap not (sym c.run_ok.ensures) ∙ (ap not c.if-not-run_ok.false))
    (leb-true _ _ (sym c.fits.ensures ∙ c.if-not-fits.false))
    c.write_table.ensures
