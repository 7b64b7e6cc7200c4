-- `do_view_change::record::record_frame` meets its contract. Assumes nothing.
use Rattle.do_view_change.proofs.RecordLaws.{sender-low, keep-asks, decide_asks, install-asks, begin-asks, keep-room, says-no, says-keep}
use Rattle.do_view_change.proofs.RecordLaws.{says-start}
use Rattle.book.specs.Memory.{memory}
use mathlib.Core.Path.{refl}
use Rattle.do_view_change.proofs.record.record_frame.Goals as goal

pub with_report-rows-requires : goal.with_report-rows-requires
with_report-rows-requires c =
    let a = c.args in
    let m = memory a.log.now a.results.now a.totals.now a.acks.now a.stored.now a.out.now a.reps.now in
    sender-low a.s a.t a.r a.d a.first a.fresh.now m _ refl c.requires.0 c.requires.1

pub decide-requires : goal.decide-requires
decide-requires c =
    let a = c.args in
    let m = memory a.log.now a.results.now a.totals.now a.acks.now a.stored.now a.out.now a.reps.now in
    decide_asks a.s a.t a.r a.d a.first a.fresh.now m _ c.with_report-rows.ensures.0 c.requires.0 c.requires.1
    c.with_report-rows.ensures.1

pub keep-requires : goal.keep-requires
keep-requires c =
    let a = c.args in
    let m = memory a.log.now a.results.now a.totals.now a.acks.now a.stored.now a.out.now a.reps.now in
    keep-asks a.s a.t a.r a.d a.first a.fresh.now m _ c.with_report-rows.ensures.0 c.requires.0 c.requires.1

pub call_first-w-requires : goal.call_first-w-requires
call_first-w-requires c =
    let a = c.args in
    let m = memory a.log.now a.results.now a.totals.now a.acks.now a.stored.now a.out.now a.reps.now in (
      c.requires.0.sound.sized,
      keep-room a.s a.t a.r a.d a.first a.fresh.now m _ c.with_report-rows.ensures.0 _ c.decide.ensures.exact
          c.in-Keep.is,
    )

pub install-requires : goal.install-requires
install-requires c =
    let a = c.args in
    let m = memory a.log.now a.results.now a.totals.now a.acks.now a.stored.now a.out.now a.reps.now in
    install-asks a.s a.t a.r a.d a.first a.fresh.now m _ c.with_report-rows.ensures.0 c.requires.0 c.requires.1
    c.with_report-rows.ensures.1 _ c.decide.ensures.exact _ _ c.in-Start.is

pub begin-requires : goal.begin-requires
begin-requires c =
    let a = c.args in
    let m = memory a.log.now a.results.now a.totals.now a.acks.now a.stored.now a.out.now a.reps.now in
    begin-asks a.s a.t a.r a.d a.first a.fresh.now m _ c.with_report-rows.ensures.0 c.requires.0 c.requires.1
    c.with_report-rows.ensures.1 _ c.decide.ensures.exact _ _ c.in-Start.is _ c.install.ensures

pub returns-in-No : goal.returns-in-No
returns-in-No c =
    let a = c.args in
    let m = memory a.log.now a.results.now a.totals.now a.acks.now a.stored.now a.out.now a.reps.now in
    says-no a.s a.t a.r a.d a.first a.fresh.now m _ c.with_report-rows.ensures.0 _ c.decide.ensures.exact _ _
    c.in-No.is c.refused.ensures

pub returns-in-Keep : goal.returns-in-Keep
returns-in-Keep c =
    let a = c.args in
    let m = memory a.log.now a.results.now a.totals.now a.acks.now a.stored.now a.out.now a.reps.now in
    says-keep a.s a.t a.r a.d a.first a.fresh.now m _ c.with_report-rows.ensures.0 _ c.decide.ensures.exact
    c.requires.0.sound.sized _ _ _ _ _ c.in-Keep.is c.keep.ensures c.call_first-w.ensures
    c.with_reports.ensures c.done.ensures

pub returns-in-Start : goal.returns-in-Start
returns-in-Start c =
    let a = c.args in
    let m = memory a.log.now a.results.now a.totals.now a.acks.now a.stored.now a.out.now a.reps.now in
    says-start a.s a.t a.r a.d a.first a.fresh.now m _ c.with_report-rows.ensures.0 _ c.decide.ensures.exact _ _ _ _ _ _
    _ _ _ c.in-Start.is c.install.ensures c.begin.ensures
