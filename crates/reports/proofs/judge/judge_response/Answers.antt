-- `reports::judge::judge_response` meets its contract. Assumes nothing.
use mathlib.Core.Path.{◌≡◌, ap, sym, ◌∙◌, subst}
use mathlib.Core.Bool.{true}
use Rattle.reports.proofs.JudgeLaws.{primary-is, primary-lies, too_few, behind, asks-primary}
use Rattle.reports.specs.Judge.{answered_by_primary, Lies}
use Rattle.reports.specs.declared.Best.{Best}
use Rattle.reports.proofs.NumberLaws.{judges-response}
use Rattle.reports.proofs.judge.judge_response.Goals as goal

pub returns-then-filled-quorum : goal.returns-then-filled-quorum
returns-then-filled-quorum c =
    let a = c.args in
    let f = c.filled in
    judges-response a.id a.room a.c.0 a.ours.now a.stored.now a.fresh.now a.t a.n a.view.0 _
    (too_few a.t a.n a.id a.room a.view.0 a.c.0 a.ours.now a.stored.now a.fresh.now f.result
    c.quorum.result f.ensures c.quorum.ensures c.if-filled-quorum.true)

pub returns-then-v-view : goal.returns-then-v-view
returns-then-v-view c =
    let a = c.args in
    let f = c.filled in
    let l = c.latest_view-v in
    judges-response a.id a.room a.c.0 a.ours.now a.stored.now a.fresh.now a.t a.n a.view.0 _
    (behind a.t a.n a.id a.room a.view.0 a.c.0 a.ours.now a.stored.now a.fresh.now f.result
    c.quorum.result f.ensures c.quorum.ensures
    l.result.0 c.if-filled-quorum.false l.ensures c.if-v-view.true)

pub judge_primary-requires : goal.judge_primary-requires
judge_primary-requires c =
    let a = c.args in
    let l = c.latest_view-v in
    let p = c.primary_id-p in
    let d = c.report_at-d in
    let e = primary-is a.t a.n l.result p.result d.result p.ensures.0 d.ensures.0 in (
      subst (λ (b : Best). b.report.there ≡ true → Lies b a.id a.room a.stored.now a.fresh.now) (sym e)
          (primary-lies a.t a.n a.id a.room a.stored.now a.fresh.now c.requires.0 l.result.0),
      c.requires.1,
    )

pub returns : goal.returns
returns c =
    let a = c.args in
    let f = c.filled in
    let l = c.latest_view-v in
    let p = c.primary_id-p in
    let d = c.report_at-d in
    let e = primary-is a.t a.n l.result p.result d.result p.ensures.0 d.ensures.0 in
    judges-response a.id a.room a.c.0 a.ours.now a.stored.now a.fresh.now a.t a.n a.view.0 _
    (asks-primary a.t a.n a.id a.room a.view.0 a.c.0 a.ours.now a.stored.now a.fresh.now f.result
    c.quorum.result f.ensures
    c.quorum.ensures l.result.0 c.judge_primary.result
    c.if-filled-quorum.false l.ensures c.if-v-view.false
    (c.judge_primary.ensures
    ∙ ap (λ (b : Best). answered_by_primary b l.result.0 a.id a.room a.c.0 a.ours.now a.stored.now a.fresh.now) e))
