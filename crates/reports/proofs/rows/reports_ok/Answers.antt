-- `reports::rows::reports_ok` meets its contract. Assumes nothing.
use mathlib.Core.Path.{sym, ◌∙◌}
use native.Mathlib.Omega.{arith}
use Rattle.reports.proofs.RowLaws.{rows-begin, row_next, row-stop, row_last}
use Rattle.reports.proofs.rows.reports_ok.Goals as goal

pub returns-then-not-row_ok : goal.returns-then-not-row_ok
returns-then-not-row_ok c =
    let a = c.args in
    let l = a.t.rows in
    let r = c.row_ok in
    sym
    (rows-begin a.room a.n l ∙ row-stop a.room l a.n 0 (omega arith) r.ensures.1 r.result r.ensures.0 (c.if-not-row_ok.true))

pub returns-then-not-row_ok-2 : goal.returns-then-not-row_ok-2
returns-then-not-row_ok-2 c =
    let a = c.args in
    let l = a.t.rows in
    let r = c.row_ok-2 in
    let r0 = c.row_ok in
    sym
    (rows-begin a.room a.n l ∙ row_next a.room l a.n 0 (omega arith) r0.ensures.1 r0.result r0.ensures.0 (c.if-not-row_ok.false)
    ∙ row-stop a.room l a.n 1 (omega arith) r.ensures.1 r.result r.ensures.0 (c.if-not-row_ok-2.true))

pub returns-then-not-row_ok-3 : goal.returns-then-not-row_ok-3
returns-then-not-row_ok-3 c =
    let a = c.args in
    let l = a.t.rows in
    let r = c.row_ok-3 in
    let r0 = c.row_ok in
    let r1 = c.row_ok-2 in
    sym
    (rows-begin a.room a.n l ∙ row_next a.room l a.n 0 (omega arith) r0.ensures.1 r0.result r0.ensures.0 (c.if-not-row_ok.false)
    ∙ row_next a.room l a.n 1 (omega arith) r1.ensures.1 r1.result r1.ensures.0 (c.if-not-row_ok-2.false)
    ∙ row-stop a.room l a.n 2 (omega arith) r.ensures.1 r.result r.ensures.0 (c.if-not-row_ok-3.true))

pub returns-then-not-row_ok-4 : goal.returns-then-not-row_ok-4
returns-then-not-row_ok-4 c =
    let a = c.args in
    let l = a.t.rows in
    let r = c.row_ok-4 in
    let r0 = c.row_ok in
    let r1 = c.row_ok-2 in
    let r2 = c.row_ok-3 in
    sym
    (rows-begin a.room a.n l ∙ row_next a.room l a.n 0 (omega arith) r0.ensures.1 r0.result r0.ensures.0 (c.if-not-row_ok.false)
    ∙ row_next a.room l a.n 1 (omega arith) r1.ensures.1 r1.result r1.ensures.0 (c.if-not-row_ok-2.false)
    ∙ row_next a.room l a.n 2 (omega arith) r2.ensures.1 r2.result r2.ensures.0 (c.if-not-row_ok-3.false)
    ∙ row-stop a.room l a.n 3 (omega arith) r.ensures.1 r.result r.ensures.0 (c.if-not-row_ok-4.true))

pub returns-then-not-row_ok-5 : goal.returns-then-not-row_ok-5
returns-then-not-row_ok-5 c =
    let a = c.args in
    let l = a.t.rows in
    let r = c.row_ok-5 in
    let r0 = c.row_ok in
    let r1 = c.row_ok-2 in
    let r2 = c.row_ok-3 in
    let r3 = c.row_ok-4 in
    sym
    (rows-begin a.room a.n l ∙ row_next a.room l a.n 0 (omega arith) r0.ensures.1 r0.result r0.ensures.0 (c.if-not-row_ok.false)
    ∙ row_next a.room l a.n 1 (omega arith) r1.ensures.1 r1.result r1.ensures.0 (c.if-not-row_ok-2.false)
    ∙ row_next a.room l a.n 2 (omega arith) r2.ensures.1 r2.result r2.ensures.0 (c.if-not-row_ok-3.false)
    ∙ row_next a.room l a.n 3 (omega arith) r3.ensures.1 r3.result r3.ensures.0 (c.if-not-row_ok-4.false)
    ∙ row-stop a.room l a.n 4 (omega arith) r.ensures.1 r.result r.ensures.0 (c.if-not-row_ok-5.true))

pub returns-then-not-row_ok-6 : goal.returns-then-not-row_ok-6
returns-then-not-row_ok-6 c =
    let a = c.args in
    let l = a.t.rows in
    let r = c.row_ok-6 in
    let r0 = c.row_ok in
    let r1 = c.row_ok-2 in
    let r2 = c.row_ok-3 in
    let r3 = c.row_ok-4 in
    let r4 = c.row_ok-5 in
    sym
    (rows-begin a.room a.n l ∙ row_next a.room l a.n 0 (omega arith) r0.ensures.1 r0.result r0.ensures.0 (c.if-not-row_ok.false)
    ∙ row_next a.room l a.n 1 (omega arith) r1.ensures.1 r1.result r1.ensures.0 (c.if-not-row_ok-2.false)
    ∙ row_next a.room l a.n 2 (omega arith) r2.ensures.1 r2.result r2.ensures.0 (c.if-not-row_ok-3.false)
    ∙ row_next a.room l a.n 3 (omega arith) r3.ensures.1 r3.result r3.ensures.0 (c.if-not-row_ok-4.false)
    ∙ row_next a.room l a.n 4 (omega arith) r4.ensures.1 r4.result r4.ensures.0 (c.if-not-row_ok-5.false)
    ∙ row-stop a.room l a.n 5 (omega arith) r.ensures.1 r.result r.ensures.0 (c.if-not-row_ok-6.true))

pub returns : goal.returns
returns c =
    let a = c.args in
    let l = a.t.rows in
    let r = c.row_ok-7 in
    let r0 = c.row_ok in
    let r1 = c.row_ok-2 in
    let r2 = c.row_ok-3 in
    let r3 = c.row_ok-4 in
    let r4 = c.row_ok-5 in
    let r5 = c.row_ok-6 in
    sym
    (rows-begin a.room a.n l ∙ row_next a.room l a.n 0 (omega arith) r0.ensures.1 r0.result r0.ensures.0 (c.if-not-row_ok.false)
    ∙ row_next a.room l a.n 1 (omega arith) r1.ensures.1 r1.result r1.ensures.0 (c.if-not-row_ok-2.false)
    ∙ row_next a.room l a.n 2 (omega arith) r2.ensures.1 r2.result r2.ensures.0 (c.if-not-row_ok-3.false)
    ∙ row_next a.room l a.n 3 (omega arith) r3.ensures.1 r3.result r3.ensures.0 (c.if-not-row_ok-4.false)
    ∙ row_next a.room l a.n 4 (omega arith) r4.ensures.1 r4.result r4.ensures.0 (c.if-not-row_ok-5.false)
    ∙ row_next a.room l a.n 5 (omega arith) r5.ensures.1 r5.result r5.ensures.0 (c.if-not-row_ok-6.false)
    ∙ row_last a.room l a.n r.ensures.1 r.result r.ensures.0)
