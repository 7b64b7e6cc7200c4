-- `recovery::answer_full` meets its contract. Assumes nothing.
use Rattle.recovery.proofs.RecoveryLaws.{full-short, full-fits, answers-full}
use Rattle.recovery.proofs.answer_full.Goals as goal

pub returns-then-out-s : goal.returns-then-out-s
returns-then-out-s c =
    let a = c.args in
    full-short a.s a.r a.x a.log.now a.out.now _ c.if-out-s.true c.refused.ensures

pub response_full-w-requires : goal.response_full-w-requires
response_full-w-requires c =
    let a = c.args in
    full-fits a.s a.r a.x a.log.now a.out.now c.requires c.if-out-s.false

pub returns : goal.returns
returns c =
    let a = c.args in
    answers-full a.s a.r a.x a.log.now a.out.now c.requires
    c.if-out-s.false _ _ _ c.response_full-w.ensures
    c.done.ensures
