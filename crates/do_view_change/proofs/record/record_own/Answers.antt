-- `do_view_change::record::record_own` meets its contract. Assumes nothing.
use Rattle.do_view_change.proofs.RecordLaws.{sender-low, keep-asks, decide_asks, install-asks, begin-asks, keep-room, says-no, says-keep}
use Rattle.do_view_change.proofs.RecordLaws.{says-start, own-told}
use Rattle.do_view_change.specs.Record.{own_report}
use Rattle.book.specs.Memory.{memory}
use mathlib.Core.Path.{refl, ap, ◌∙◌}
use Rattle.reports.specs.Rows.{with_report}
use Rattle.do_view_change.proofs.record.record_own.Goals as goal

pub with_report-rows-requires : goal.with_report-rows-requires
with_report-rows-requires c =
    let a = c.args in
    let m = memory a.log.now a.results.now a.totals.now a.acks.now a.stored.now a.out.now a.reps.now in
    sender-low a.s a.t a.t.setup.id (own_report a.t) a.first a.log.now m _ refl c.requires (own-told a.t m c.requires)

pub decide-requires : goal.decide-requires
decide-requires c =
    let a = c.args in
    let m = memory a.log.now a.results.now a.totals.now a.acks.now a.stored.now a.out.now a.reps.now in
    decide_asks a.s a.t a.t.setup.id (own_report a.t) a.first a.log.now m _
    (c.with_report-rows.ensures.0 ∙ ap (with_report a.t.reports a.t.setup.id) c.own_report-d.ensures) c.requires
    (own-told a.t m c.requires) c.with_report-rows.ensures.1

pub keep-requires : goal.keep-requires
keep-requires c =
    let a = c.args in
    let m = memory a.log.now a.results.now a.totals.now a.acks.now a.stored.now a.out.now a.reps.now in
    keep-asks a.s a.t a.t.setup.id (own_report a.t) a.first a.log.now m _
    (c.with_report-rows.ensures.0 ∙ ap (with_report a.t.reports a.t.setup.id) c.own_report-d.ensures) c.requires
    (own-told a.t m c.requires)

pub call_first-w-requires : goal.call_first-w-requires
call_first-w-requires c =
    let a = c.args in
    let m = memory a.log.now a.results.now a.totals.now a.acks.now a.stored.now a.out.now a.reps.now in (
      c.requires.sound.sized,
      keep-room a.s a.t a.t.setup.id (own_report a.t) a.first a.log.now m _
          (c.with_report-rows.ensures.0 ∙ ap (with_report a.t.reports a.t.setup.id) c.own_report-d.ensures) _ c.decide.ensures.exact
          c.in-Keep.is,
    )

pub install_own-requires : goal.install_own-requires
install_own-requires c =
    let a = c.args in
    let m = memory a.log.now a.results.now a.totals.now a.acks.now a.stored.now a.out.now a.reps.now in
    install-asks a.s a.t a.t.setup.id (own_report a.t) a.first a.log.now m _
    (c.with_report-rows.ensures.0 ∙ ap (with_report a.t.reports a.t.setup.id) c.own_report-d.ensures) c.requires
    (own-told a.t m c.requires) c.with_report-rows.ensures.1 _ c.decide.ensures.exact _ _ c.in-Start.is

pub begin-requires : goal.begin-requires
begin-requires c =
    let a = c.args in
    let m = memory a.log.now a.results.now a.totals.now a.acks.now a.stored.now a.out.now a.reps.now in
    begin-asks a.s a.t a.t.setup.id (own_report a.t) a.first a.log.now m _
    (c.with_report-rows.ensures.0 ∙ ap (with_report a.t.reports a.t.setup.id) c.own_report-d.ensures) c.requires
    (own-told a.t m c.requires) c.with_report-rows.ensures.1 _ c.decide.ensures.exact _ _ c.in-Start.is _ c.install_own.ensures

pub returns-in-No : goal.returns-in-No
returns-in-No c =
    let a = c.args in
    let m = memory a.log.now a.results.now a.totals.now a.acks.now a.stored.now a.out.now a.reps.now in
    says-no a.s a.t a.t.setup.id (own_report a.t) a.first a.log.now m _
    (c.with_report-rows.ensures.0 ∙ ap (with_report a.t.reports a.t.setup.id) c.own_report-d.ensures) _ c.decide.ensures.exact _ _
    c.in-No.is c.refused.ensures

pub returns-in-Keep : goal.returns-in-Keep
returns-in-Keep c =
    let a = c.args in
    let m = memory a.log.now a.results.now a.totals.now a.acks.now a.stored.now a.out.now a.reps.now in
    says-keep a.s a.t a.t.setup.id (own_report a.t) a.first a.log.now m _
    (c.with_report-rows.ensures.0 ∙ ap (with_report a.t.reports a.t.setup.id) c.own_report-d.ensures) _ c.decide.ensures.exact
    c.requires.sound.sized _ _ _ _ _ c.in-Keep.is c.keep.ensures c.call_first-w.ensures
    c.with_reports.ensures c.done.ensures

pub returns-in-Start : goal.returns-in-Start
returns-in-Start c =
    let a = c.args in
    let m = memory a.log.now a.results.now a.totals.now a.acks.now a.stored.now a.out.now a.reps.now in
    says-start a.s a.t a.t.setup.id (own_report a.t) a.first a.log.now m _
    (c.with_report-rows.ensures.0 ∙ ap (with_report a.t.reports a.t.setup.id) c.own_report-d.ensures) _ c.decide.ensures.exact _ _
    _ _ _ _ _ _ _ c.in-Start.is c.install_own.ensures c.begin.ensures
