-- `voting::votes::maybe_send_do_view_change` meets its contract. Assumes nothing.
use mathlib.Core.Bool.{not}
use mathlib.Core.Path.{ap}
use Rattle.voting.proofs.VoteLaws.{too-early, in-time}
use Rattle.book.specs.Memory.{memory}
use native.Mathlib.Omega.{arith}
use Rattle.config.proofs.SetupLaws.{sized}
use Rattle.voting.proofs.votes.maybe_send_do_view_change.Goals as goal

pub returns-then-not-is_due : goal.returns-then-not-is_due
returns-then-not-is_due c =
    let a = c.args in
    let m = memory a.log.now a.results.now a.totals.now a.acks.now a.stored.now a.out.now a.reps.now in
    too-early a.s a.t a.first m _ c.is_due.ensures (ap not c.if-not-is_due.true) _ _ c.call.ensures

pub returns : goal.returns
returns c =
    let a = c.args in
    let m = memory a.log.now a.results.now a.totals.now a.acks.now a.stored.now a.out.now a.reps.now in
    in-time a.s a.t a.first m _ c.is_due.ensures (ap not c.if-not-is_due.false) _ _ c.with_sent.ensures c.send_do_view_change.ensures

pub is_due-requires : goal.is_due-requires
is_due-requires c =
    omega (arith, (sized c.args.t.setup c.requires.sound.sized).seven)
