-- `csv::exporting::fits` meets its contract. The loop's invariant: the room is the table of the first i entries and what is left of it. Assumes nothing.
use mathlib.Core.Path.{ap}
use Prim.Native.Nat.{◌+◌}
use native.Mathlib.Omega.{arith}
use lib.ListN.{length}
use Rattle.entries.specs.Entries.{run_count}
use Rattle.csv_table.proofs.ExportLaws.{table_none, table-longer, no_room, room-enough}
use Rattle.csv_table.proofs.exporting.fits.Goals as goal

pub returns-then-room-lt37 : goal.returns-then-room-lt37
returns-then-room-lt37 c =
    let a = c.args in
    no_room 0 (run_count a.run.now) a.room a.run.now (omega arith) (omega (arith, ap length (table_none a.run.now)))

pub returns-then-n-left : goal.returns-then-n-left
returns-then-n-left c =
    let a = c.args in
    room-enough (run_count a.run.now) a.room a.run.now (λ i. omega (arith, c.shared_slice_known-1.given i)) (omega arith) (omega arith)
    (omega arith)

pub loop-i-init : goal.loop-i-init
loop-i-init c =
    let a = c.args in
    omega (arith, ap length (table_none a.run.now))

pub returns-then-left-size : goal.returns-then-left-size
returns-then-left-size c =
    let l = c.loop-i in
    let a = c.args in
    let m = table-longer l.i a.run.now c.entry_at.result c.entry_at.ensures in
    no_room (l.i + 1) (run_count a.run.now) a.room a.run.now (omega arith) (omega arith)

pub loop-i-preserved : goal.loop-i-preserved
loop-i-preserved c =
    let l = c.loop-i in
    let a = c.args in
    let m = table-longer l.i a.run.now c.entry_at.result c.entry_at.ensures in
    omega arith
