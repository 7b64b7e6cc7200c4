-- `voting::votes::on_same_view` meets its contract. Assumes nothing.
use mathlib.Core.Bool.{not}
use mathlib.Core.Path.{ap}
use Rattle.voting.proofs.VoteLaws.{bit-low, voted-gathers, joins, is-away, leader-tells, backup-waits}
use Rattle.book.specs.Memory.{memory}
use Rattle.state.proofs.SoundLaws.{start-gathered}
use Rattle.voting.proofs.votes.on_same_view.Goals as goal

pub with_start-t-requires : goal.with_start-t-requires
with_start-t-requires c =
    bit-low c.args.s _ c.requires.0 c.args.r c.requires.1

pub maybe_send_do_view_change-requires : goal.maybe_send_do_view_change-requires
maybe_send_do_view_change-requires c =
    let a = c.args in
    let m = memory a.log.now a.results.now a.totals.now a.acks.now a.stored.now a.out.now a.reps.now in
    voted-gathers a.s m c.requires.0 _ _ _ c.with_start-t.ensures
    (start-gathered a.s.setup a.s.starts a.r a.s.reports.rows c.requires.1 c.requires.0.reports)

pub returns-then-is_changing : goal.returns-then-is_changing
returns-then-is_changing c =
    let a = c.args in
    let m = memory a.log.now a.results.now a.totals.now a.acks.now a.stored.now a.out.now a.reps.now in
    joins a.s a.r m _ c.is_changing.ensures c.if-is_changing.true _ _ c.with_start-t.ensures c.maybe_send_do_view_change.ensures

pub returns-then-not-is_normal : goal.returns-then-not-is_normal
returns-then-not-is_normal c =
    let a = c.args in
    let m = memory a.log.now a.results.now a.totals.now a.acks.now a.stored.now a.out.now a.reps.now in
    is-away a.s a.r m _ c.is_changing.ensures c.if-is_changing.false _ c.is_normal.ensures (ap not c.if-not-is_normal.true) _ c.done.ensures

pub returns-then-is_primary : goal.returns-then-is_primary
returns-then-is_primary c =
    let a = c.args in
    let m = memory a.log.now a.results.now a.totals.now a.acks.now a.stored.now a.out.now a.reps.now in
    leader-tells a.s a.r m _ c.is_changing.ensures c.if-is_changing.false _ c.is_normal.ensures (ap not c.if-not-is_normal.false) _
    c.is_primary.ensures c.if-is_primary.true _ _ c.send_start_view.ensures

pub returns : goal.returns
returns c =
    let a = c.args in
    let m = memory a.log.now a.results.now a.totals.now a.acks.now a.stored.now a.out.now a.reps.now in
    backup-waits a.s a.r m _ c.is_changing.ensures c.if-is_changing.false _ c.is_normal.ensures (ap not c.if-not-is_normal.false) _
    c.is_primary.ensures c.if-is_primary.false _ c.done-2.ensures
