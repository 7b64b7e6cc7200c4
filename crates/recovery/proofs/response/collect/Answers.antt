-- `recovery::response::collect` meets its contract. Assumes nothing.
use Rattle.recovery.proofs.ResponseLaws.{sender-seven, keep-fits, judge-asks, back-asks, keeps-it, refuses-it, ends-with-it}
use Rattle.recovery.proofs.response.collect.Goals as goal

pub with_report-rows-requires : goal.with_report-rows-requires
with_report-rows-requires c =
    let a = c.args in
    sender-seven a.s a.r a.d a.fresh.now a.log.now a.results.now a.totals.now a.stored.now c.requires.0
    c.requires.1

pub judge_response-requires : goal.judge_response-requires
judge_response-requires c =
    let a = c.args in
    judge-asks a.s a.r a.d a.fresh.now a.log.now a.results.now a.totals.now a.stored.now c.requires.0
    c.requires.1 _ c.with_report-rows.ensures.0 c.with_report-rows.ensures.1

pub keep-requires : goal.keep-requires
keep-requires c =
    let a = c.args in
    keep-fits a.s a.r a.d a.fresh.now a.log.now a.results.now a.totals.now a.stored.now c.requires.0 c.requires.1

pub come_back-requires : goal.come_back-requires
come_back-requires c =
    let a = c.args in
    back-asks a.s a.r a.d a.fresh.now a.log.now a.results.now a.totals.now a.stored.now c.requires.0 c.requires.1
    _ c.with_report-rows.ensures.0
    c.with_report-rows.ensures.1 _ _ _
    c.judge_response.ensures.exact
    c.in-Begin.is

pub returns-in-Wait : goal.returns-in-Wait
returns-in-Wait c =
    let a = c.args in
    keeps-it a.s a.r a.d a.fresh.now a.log.now a.results.now a.totals.now a.stored.now _
    c.with_report-rows.ensures.0 _
    c.judge_response.ensures.exact _ _ _
    c.in-Wait.is c.keep.ensures
    c.with_reports.ensures c.done.ensures

pub returns-in-Refuse : goal.returns-in-Refuse
returns-in-Refuse c =
    let a = c.args in
    refuses-it a.s a.r a.d a.fresh.now a.log.now a.results.now a.totals.now a.stored.now _
    c.with_report-rows.ensures.0 _ c.judge_response.ensures.exact _
    c.in-Refuse.is c.refused.ensures

pub returns-in-Begin : goal.returns-in-Begin
returns-in-Begin c =
    let a = c.args in
    ends-with-it a.s a.r a.d a.fresh.now a.log.now a.results.now a.totals.now a.stored.now _
    c.with_report-rows.ensures.0
    _
    c.judge_response.ensures.exact
    _ _ _ c.in-Begin.is
    c.come_back.ensures
