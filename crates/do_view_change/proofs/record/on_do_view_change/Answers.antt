-- `do_view_change::record::on_do_view_change` meets its contract. Assumes nothing.
use Rattle.do_view_change.proofs.TellLaws.{report-told, moved-gathers, moved_told, too-old, not_ours, moves, tells-view, gathers}
use Rattle.book.specs.Memory.{memory}
use Rattle.do_view_change.proofs.record.on_do_view_change.Goals as goal

pub returns-then-v-s : goal.returns-then-v-s
returns-then-v-s c =
    let a = c.args in
    let m = memory a.log.now a.results.now a.totals.now a.acks.now a.stored.now a.out.now a.reps.now in
    too-old a.s a.v a.r a.normal a.o a.c a.part.now m c.if-v-s.true _ c.done.ensures

pub returns-then-primary_id-s : goal.returns-then-primary_id-s
returns-then-primary_id-s c =
    let a = c.args in
    let m = memory a.log.now a.results.now a.totals.now a.acks.now a.stored.now a.out.now a.reps.now in
    not_ours a.s a.v a.r a.normal a.o a.c a.part.now m c.if-v-s.false _ c.primary_id.ensures.0
    c.if-primary_id-s.true _ c.done-then-primary_id-s.ensures

pub record_frame-requires : goal.record_frame-requires
record_frame-requires c =
    let a = c.args in
    let m = memory a.log.now a.results.now a.totals.now a.acks.now a.stored.now a.out.now a.reps.now in (
      moved-gathers a.s a.v m _ c.changing_to-t.ensures c.requires.0,
      report-told _ a.r a.normal a.o a.c a.part.now _ c.report-d.ensures
          (moved_told a.s a.v _ a.r a.o a.c a.part.now c.changing_to-t.ensures c.requires.1),
    )

pub returns-then-s-v : goal.returns-then-s-v
returns-then-s-v c =
    let a = c.args in
    let m = memory a.log.now a.results.now a.totals.now a.acks.now a.stored.now a.out.now a.reps.now in
    moves a.s a.v a.r a.normal a.o a.c a.part.now m c.if-v-s.false _ c.primary_id.ensures.0 c.if-primary_id-s.false
    c.if-s-v.true _ _ _ c.changing_to-t.ensures c.report-d.ensures c.record_frame.ensures

pub returns-then-is_normal : goal.returns-then-is_normal
returns-then-is_normal c =
    let a = c.args in
    let m = memory a.log.now a.results.now a.totals.now a.acks.now a.stored.now a.out.now a.reps.now in
    tells-view a.s a.v a.r a.normal a.o a.c a.part.now m c.if-v-s.false _ c.primary_id.ensures.0 c.if-primary_id-s.false
    c.if-s-v.false _ c.is_normal.ensures c.if-is_normal.true _ _ c.send_start_view.ensures

pub returns : goal.returns
returns c =
    let a = c.args in
    let m = memory a.log.now a.results.now a.totals.now a.acks.now a.stored.now a.out.now a.reps.now in
    gathers a.s a.v a.r a.normal a.o a.c a.part.now m c.if-v-s.false _ c.primary_id.ensures.0 c.if-primary_id-s.false
    c.if-s-v.false _ c.is_normal.ensures c.if-is_normal.false _ _ c.report-d.ensures c.record_frame-2.ensures
