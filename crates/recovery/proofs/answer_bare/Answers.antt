-- `recovery::answer_bare` meets its contract. Assumes nothing.
use Rattle.recovery.proofs.RecoveryLaws.{bare-short, answers-bare}
use Rattle.recovery.proofs.answer_bare.Goals as goal

pub returns-then-out-lt21 : goal.returns-then-out-lt21
returns-then-out-lt21 c =
    let a = c.args in
    bare-short a.s a.r a.x a.out.now _ c.if-out-lt21.true c.refused.ensures

pub returns : goal.returns
returns c =
    let a = c.args in
    answers-bare a.s a.r a.x a.out.now _ _ _ c.if-out-lt21.false
    c.response_bare-w.ensures c.done.ensures
