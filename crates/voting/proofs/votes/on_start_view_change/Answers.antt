-- `voting::votes::on_start_view_change` meets its contract. Assumes nothing.
use Rattle.voting.proofs.VoteLaws.{bit-low, asked-gathers, too-old, moves-on, same_view_lem}
use Rattle.book.specs.Memory.{memory}
use Rattle.voting.proofs.votes.on_start_view_change.Goals as goal

pub returns-then-v-s : goal.returns-then-v-s
returns-then-v-s c =
    let a = c.args in
    let m = memory a.log.now a.results.now a.totals.now a.acks.now a.stored.now a.out.now a.reps.now in
    too-old a.s a.v a.r m c.if-v-s.true _ c.done.ensures

pub with_start-t-requires : goal.with_start-t-requires
with_start-t-requires c =
    bit-low c.args.s _ c.requires.0 c.args.r c.requires.1

pub maybe_send_do_view_change-requires : goal.maybe_send_do_view_change-requires
maybe_send_do_view_change-requires c =
    let a = c.args in
    let m = memory a.log.now a.results.now a.totals.now a.acks.now a.stored.now a.out.now a.reps.now in
    asked-gathers a.s a.v a.r m _ _ c.changing_to.ensures c.with_start-t.ensures c.requires.1 c.requires.0

pub returns-then-s-v : goal.returns-then-s-v
returns-then-s-v c =
    let a = c.args in
    let m = memory a.log.now a.results.now a.totals.now a.acks.now a.stored.now a.out.now a.reps.now in
    moves-on a.s a.v a.r m c.if-v-s.false c.if-s-v.true _ _ _ c.changing_to.ensures c.with_start-t.ensures
    c.maybe_send_do_view_change.ensures

pub returns : goal.returns
returns c =
    let a = c.args in
    let m = memory a.log.now a.results.now a.totals.now a.acks.now a.stored.now a.out.now a.reps.now in
    same_view_lem a.s a.v a.r m c.if-v-s.false c.if-s-v.false _ c.on_same_view.ensures
