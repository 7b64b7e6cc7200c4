-- `csv::exporting::kind_size` meets its contract, by the words' lengths. Assumes nothing.
use native.Mathlib.Omega.{arith}
use Rattle.csv_table.proofs.ExportRowLaws.{refund-long, other-long}
use Rattle.csv_table.proofs.exporting.kind_size.Goals as goal

pub returns-in-2 : goal.returns-in-2
returns-in-2 c = let e = refund-long c.args.operation c.in-2.is in (omega arith, omega arith)

pub returns-in_default : goal.returns-in_default
returns-in_default c = let e = other-long c.args.operation c.in_default.in_default-own.rest.1 in (omega arith, omega arith)
