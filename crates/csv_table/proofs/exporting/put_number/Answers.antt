-- `csv::exporting::put_number` meets its contract: the comma stands straight behind the figures. Assumes nothing.
use mathlib.Core.Path.{sym}
use native.Mathlib.Omega.{arith}
use Rattle.numbers.proofs.RunLaws.{over-set}
use Rattle.decimal.specs.Decimal.{decimal}
use Rattle.csv_table.proofs.ExportRowLaws.{comma-long}
use Rattle.csv_table.proofs.exporting.put_number.Goals as goal

pub returns : goal.returns
returns c =
    let a = c.args in
    let w = c.write-k in
    record {
      bytes = over-set (decimal a.x) a.area.now w.result 44 (sym w.ensures.count) (omega arith) w.ensures.bytes;
      count = omega (arith, w.ensures.count, comma-long (decimal a.x));
    }
