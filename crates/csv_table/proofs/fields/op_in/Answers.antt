-- `csv_table::fields::op_in` meets its contract.
-- Assumes nothing.
use mathlib.Core.Path.{sym, ap, ◌∙◌}
use Rattle.std.specs.Prelude.{option_and_then}
use Rattle.std.specs.Bool.{then_some}
use lib.Dec.{eqb}
use Rattle.csv_table.specs.Fields.{row_op_in}
use Rattle.csv_table.proofs.fields.op_in.Goals as goal

pub returns-in_err-n : goal.returns-in_err-n
unfolding row_op_in
returns-in_err-n c =
    c.from_residual.ensures ∙ ap (option_and_then (λ n. then_some (eqb n c.args.i) n)) (sym c.in_err-n.was ∙ c.read.ensures)

pub returns : goal.returns
unfolding row_op_in
returns c =
    c.then_some.ensures ∙ ap (option_and_then (λ n. then_some (eqb n c.args.i) n)) (sym c.in_ok-n.was ∙ c.read.ensures)
