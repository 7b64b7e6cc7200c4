-- `do_view_change::begin::begin` meets its contract. Assumes nothing.
use Rattle.do_view_change.proofs.BeginLaws.{replies-fit, begins}
use Rattle.do_view_change.proofs.begin.begin.Goals as goal

pub write_replies-requires : goal.write_replies-requires
write_replies-requires c =
    let a = c.args in
    replies-fit a.t a.o a.g a.log.now a.results.now a.totals.now c.requires.0 c.requires.1.0
    _ _ c.enter_normal.ensures c.with_log-e.ensures _ c.commit_up_to-u.ensures.0 _ _
    c.commit_up_to-u.auto.results c.requires.1.1.1.1

pub returns : goal.returns
returns c =
    let a = c.args in
    begins a.t a.o a.g a.log.now a.results.now a.totals.now c.requires.0 c.requires.1.0
    _ _ c.enter_normal.ensures c.with_log-e.ensures _ c.commit_up_to-u.ensures.0
    a.first a.acks.now a.out.now a.reps.now _ _ _ _ _ _ _ c.commit_up_to-u.ensures.1
    c.write_replies.ensures c.own_acks.ensures c.send_start_views-w.ensures c.done.ensures
