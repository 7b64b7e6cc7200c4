-- `voting::votes::call` meets its contract. Assumes nothing.
use Rattle.voting.proofs.VoteLaws.{calls-short, calls}
use Rattle.voting.proofs.votes.call.Goals as goal

pub returns-then-out-first_len : goal.returns-then-out-first_len
returns-then-out-first_len c =
    let a = c.args in
    calls-short a.s a.t a.first a.out.now _ c.first_len.ensures _ c.if-out-first_len.true c.refused.ensures

pub returns : goal.returns
returns c =
    let a = c.args in
    calls a.s a.t a.first a.out.now _ c.first_len.ensures c.requires c.if-out-first_len.false _ _ _ c.call_first-w.ensures c.done.ensures
