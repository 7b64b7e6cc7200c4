-- `reports::judge::weigh` meets its contract. Assumes nothing.
use mathlib.Core.Path.{ap, sym, ◌∙◌}
use native.Mathlib.Omega.{arith}
use lib.ListN.{length}
use Rattle.entries.proofs.PlaceLaws.{place_is}
use Rattle.reports.proofs.JudgeLaws.{length-chosen, passes, shortens, alters, begins}
use Rattle.reports.proofs.judge.weigh.Goals as goal

pub returns-then-b-g : goal.returns-then-b-g
returns-then-b-g c =
    let a = c.args in
    passes a.b a.g a.id a.room a.c.0 a.ours.now a.stored.now a.fresh.now c.if-b-g.true

pub returns-then-b-c : goal.returns-then-b-c
returns-then-b-c c =
    let a = c.args in
    shortens a.b a.g a.id a.room a.c.0 a.ours.now a.stored.now a.fresh.now
    c.if-b-g.false c.if-b-c.true

pub keeps-requires : goal.keeps-requires
keeps-requires c =
    let a = c.args in
    let p = c.requires in
    let e = ap length c.chosen_log-theirs.ensures ∙ length-chosen a.b a.id a.room a.stored.now a.fresh.now p.0 in (
      omega (arith, p.0.long, p.0.small, c.if-b-c.false),
      (omega (arith, place_is a.c.0, p.1), omega (arith, e)),
    )

pub returns-then-keeps : goal.returns-then-keeps
returns-then-keeps c =
    let a = c.args in
    begins a.b a.g a.id a.room a.c.0 a.ours.now a.stored.now a.fresh.now
    c.if-b-g.false
    (sym (c.keeps.ensures ∙ rw c.chosen_log-theirs.ensures) ∙ c.if-keeps.true)

pub returns : goal.returns
returns c =
    let a = c.args in
    alters a.b a.g a.id a.room a.c.0 a.ours.now a.stored.now a.fresh.now
    c.if-b-g.false
    (sym (c.keeps.ensures ∙ rw c.chosen_log-theirs.ensures) ∙ c.if-keeps.false)
