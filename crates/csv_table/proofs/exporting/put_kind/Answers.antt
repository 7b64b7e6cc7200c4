-- `csv::exporting::put_kind` meets its contract: each copy is the operation's word and a comma. Assumes nothing.
use mathlib.Core.Path.{refl, ap}
use native.Mathlib.Omega.{arith}
use lib.ListN.{length}
use Rattle.csv_table.proofs.ExportRowLaws.{fee-word, refund-word, ask-word}
use Rattle.csv_table.proofs.exporting.put_kind.Goals as goal

pub copy-requires : goal.copy-requires
copy-requires c =
    let e = ap length (fee-word c.args.operation c.if-operation-eq1.true) in
    (omega arith, omega arith)

pub returns-then-operation-eq1 : goal.returns-then-operation-eq1
returns-then-operation-eq1 c =
    let e = fee-word c.args.operation c.if-operation-eq1.true in
    rw e (record { bytes = c.copy.ensures; count = refl })

pub copy-requires-then-operation-eq2 : goal.copy-requires-then-operation-eq2
copy-requires-then-operation-eq2 c =
    let e = ap length (refund-word c.args.operation c.if-operation-eq2.true) in
    (omega arith, omega arith)

pub returns-then-operation-eq2 : goal.returns-then-operation-eq2
returns-then-operation-eq2 c =
    let e = refund-word c.args.operation c.if-operation-eq2.true in
    rw e (record { bytes = c.copy-then-operation-eq2.ensures; count = refl })

pub copy-requires-2 : goal.copy-requires-2
copy-requires-2 c =
    let e = ap length (ask-word c.args.operation c.if-operation-eq1.false c.if-operation-eq2.false) in
    (omega arith, omega arith)

pub returns : goal.returns
returns c =
    let e = ask-word c.args.operation c.if-operation-eq1.false c.if-operation-eq2.false in
    rw e (record { bytes = c.copy-2.ensures; count = refl })
