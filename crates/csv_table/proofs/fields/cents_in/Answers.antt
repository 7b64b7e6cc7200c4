-- `csv_table::fields::cents_in` meets its contract.
-- Assumes nothing.
use mathlib.Core.Path.{sym, ap, ◌∙◌}
use mathlib.Core.Bool.{Bool}
use Rattle.std.specs.Prelude.{option_and_then}
use Rattle.std.specs.Bool.{then_some}
use Rattle.entries.specs.Entries.{operation_ok}
use Rattle.csv_table.specs.Fields.{cents_in}
use Rattle.csv_table.proofs.fields.cents_in.Goals as goal

pub returns-in_err-n : goal.returns-in_err-n
unfolding cents_in
returns-in_err-n c =
    c.from_residual.ensures ∙ ap (option_and_then (λ n. then_some (operation_ok c.args.operation n) n)) (sym c.in_err-n.was ∙ c.read.ensures)

pub returns : goal.returns
unfolding cents_in
returns c =
    c.then_some.ensures
    ∙ ap (λ (b : Bool). then_some b c.in_ok-n.n) c.operation_ok.ensures
    ∙ ap (option_and_then (λ n. then_some (operation_ok c.args.operation n) n)) (sym c.in_ok-n.was ∙ c.read.ensures)
