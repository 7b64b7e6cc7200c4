-- `frames::offset::carries_log` meets its contract. Assumes nothing.
use Rattle.numbers.specs.Words.{◌or◌}
use Rattle.frames.specs.FrameRules.{carries_log}
use Rattle.frames.proofs.KindLaws.{other-kind}
use Rattle.frames.proofs.offset.carries_log.Goals as goal

pub returns-in-NewState : goal.returns-in-NewState
unfolding carries_log ◌or◌
returns-in-NewState c = rw c.in-NewState.is

pub returns-in-DoViewChange : goal.returns-in-DoViewChange
unfolding carries_log ◌or◌
returns-in-DoViewChange c = rw c.in-DoViewChange.is

pub returns-in-StartView : goal.returns-in-StartView
unfolding carries_log ◌or◌
returns-in-StartView c = rw c.in-StartView.is

pub returns-in-RecoveryResponse : goal.returns-in-RecoveryResponse
unfolding carries_log ◌or◌
returns-in-RecoveryResponse c = rw c.in-RecoveryResponse.is

pub returns-in_default : goal.returns-in_default
unfolding carries_log ◌or◌
returns-in_default c =
    let r = c.in_default in
    rw (other-kind r.not-NewState, other-kind r.not-DoViewChange, other-kind r.not-StartView, other-kind r.not-RecoveryResponse)
