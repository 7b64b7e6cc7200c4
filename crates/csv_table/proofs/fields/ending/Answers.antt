-- `csv_table::fields::ending` meets its contract: each arm is a case of the definition.
-- Assumes nothing.
use native.Mathlib.Omega.{arith}
use lib.ListN.{get_or-eq_default}
use Rattle.csv_table.proofs.FieldLaws.{ending-file, ending-comma, ending-line, ending-other, ending-cr}
use Rattle.csv_table.proofs.fields.ending.Goals as goal

pub returns-in-empty : goal.returns-in-empty
returns-in-empty c = ending-file c.args.s.now (omega arith)

pub returns-in-13 : goal.returns-in-13
returns-in-13 c = ending-line c.args.s.now (omega arith) (λ e. omega arith) (omega arith) (omega arith)

pub returns-in-44 : goal.returns-in-44
returns-in-44 c = ending-comma c.args.s.now (omega arith) (omega arith)

pub returns-in-44-2 : goal.returns-in-44-2
returns-in-44-2 c = ending-comma c.args.s.now (omega arith) (omega arith)

pub returns-in_default : goal.returns-in_default
returns-in_default c =
    let z = get_or-eq_default c.args.s.now 0 {n = 1} (omega arith) in
    ending-cr c.args.s.now (omega arith) (λ e. omega arith) (λ e. omega arith)

pub returns-in_default-2 : goal.returns-in_default-2
returns-in_default-2 c = ending-cr c.args.s.now (omega arith) (λ e. omega arith) (λ e. omega arith)

pub returns-in_default-3 : goal.returns-in_default-3
returns-in_default-3 c = ending-other c.args.s.now (omega arith) (λ e. omega arith) (λ e. omega arith)
