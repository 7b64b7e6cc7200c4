-- `reports::judge::judge` meets its contract. Assumes nothing.
use Rattle.reports.proofs.JudgeLaws.{waits, weighs, chosen-lies}
use Rattle.reports.proofs.NumberLaws.{judges}
use Rattle.reports.proofs.judge.judge.Goals as goal

pub returns-then-filled-quorum : goal.returns-then-filled-quorum
returns-then-filled-quorum c =
    let a = c.args in
    let f = c.filled in
    judges a.id a.room a.c.0 a.ours.now a.stored.now a.fresh.now a.t a.n _
    (waits a.t a.n a.id a.room a.c.0 a.ours.now a.stored.now a.fresh.now f.result c.quorum.result
    f.ensures c.quorum.ensures c.if-filled-quorum.true)

pub weigh-requires : goal.weigh-requires
weigh-requires c =
    let a = c.args in
    let p = c.requires in
    (rw c.choose-b.ensures (chosen-lies a.t a.n a.id a.room a.stored.now a.fresh.now p.0), p.1)

pub returns : goal.returns
returns c =
    let a = c.args in
    let f = c.filled in
    let h = c.choose-b in
    let g = c.greatest_commit-g in
    judges a.id a.room a.c.0 a.ours.now a.stored.now a.fresh.now a.t a.n _
    (weighs a.t a.n a.id a.room a.c.0 a.ours.now a.stored.now a.fresh.now f.result
    c.quorum.result h.result g.result c.weigh.result f.ensures
    c.quorum.ensures c.if-filled-quorum.false h.ensures g.ensures
    c.weigh.ensures)
