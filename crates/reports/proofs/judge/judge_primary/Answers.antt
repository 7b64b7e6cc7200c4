-- `reports::judge::judge_primary` meets its contract. Assumes nothing.
use Rattle.reports.proofs.JudgeLaws.{absent, silent, older, tells}
use Rattle.reports.proofs.judge.judge_primary.Goals as goal

pub returns-then-not-b : goal.returns-then-not-b
returns-then-not-b c =
    let a = c.args in
    absent a.b a.v.0 a.id a.room a.c.0 a.ours.now a.stored.now a.fresh.now c.if-not-b.true

pub returns-then-not-b-2 : goal.returns-then-not-b-2
returns-then-not-b-2 c =
    let a = c.args in
    silent a.b a.v.0 a.id a.room a.c.0 a.ours.now a.stored.now a.fresh.now c.if-not-b.false
    c.if-not-b-2.true

pub returns-then-b-v : goal.returns-then-b-v
returns-then-b-v c =
    let a = c.args in
    older a.b a.v.0 a.id a.room a.c.0 a.ours.now a.stored.now a.fresh.now
    c.if-not-b.false c.if-not-b-2.false c.if-b-v.true

pub returns : goal.returns
returns c =
    let a = c.args in
    tells a.b a.v.0 a.id a.room a.c.0 a.ours.now a.stored.now a.fresh.now c.weigh.result
    c.if-not-b.false c.if-not-b-2.false
    c.if-b-v.false c.weigh.ensures
