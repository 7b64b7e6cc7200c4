-- `csv_table::reading::row` meets its contract. The invariant: the row is what is left of it behind the first k fields, and their values are small enough to be cast.
-- Assumes nothing.
use mathlib.Core.Path.{sym, ◌∙◌}
use native.Mathlib.Omega.{arith}
use lib.ListN.{drop}
use Rattle.csv_table.proofs.ReadingLaws.{values-none, values-next, row-start, row-end, turn-told, turn-fits, turn-good, turn-bad}
use Rattle.csv_table.proofs.reading.row.Goals as goal

pub loop-k-init : goal.loop-k-init
loop-k-init c =
    let a = c.args in
    (omega arith, values-none, row-start a.i a.s.now)

pub returns-in-Err : goal.returns-in-Err
returns-in-Err c =
    let l = c.loop-k in
    let a = c.args in
    sym (l.invariant.2 ∙ turn-bad l.k a.i l.values l.p a.s.now c.told.result c.told.ensures c.loop-k-test.true c.in-Err.fault c.in-Err.is)

pub overflow_add-p : goal.overflow_add-p
overflow_add-p c =
    let l = c.loop-k in
    let a = c.args in
    omega (arith, turn-fits l.k a.i l.values l.p a.s.now c.told.result c.told.ensures c.in-Ok.told c.in-Ok.is l.invariant.0)

pub loop-k-preserved : goal.loop-k-preserved
loop-k-preserved c =
    let l = c.loop-k in
    let a = c.args in
    let t = c.in-Ok.told in
    let e = c.in-Ok.is in
    let h = c.loop-k-test.true in (
      turn-fits l.k a.i l.values l.p a.s.now c.told.result c.told.ensures t e l.invariant.0,
      values-next a.i l.k _ l.values _ t (turn-told l.k a.i l.values l.p a.s.now c.told.result c.told.ensures t e) h l.invariant.1,
      l.invariant.2 ∙ turn-good l.k a.i l.values l.p a.s.now c.told.result c.told.ensures h t e,
    )

pub returns : goal.returns
returns c =
    let l = c.loop-k in
    let a = c.args in
    row-end l.k a.i l.values l.p (drop l.p a.s.now) (omega arith) ∙ sym l.invariant.2
