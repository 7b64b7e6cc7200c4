-- `frames::say::said` meets its contract. Assumes nothing.
use native.Mathlib.Omega.{arith}
use Rattle.numbers.specs.Words.{when◌then◌else◌}
use Rattle.frames.specs.Kinds.{room_of, count_of}
use Rattle.frames.specs.Messages.{message_of}
use Rattle.frames.proofs.say.said.Goals as goal

pub request-requires : goal.request-requires
unfolding room_of count_of when◌then◌else◌
request-requires c = omega (arith, rw c.in-Request.is at c.requires)

pub prepare-requires : goal.prepare-requires
unfolding room_of count_of when◌then◌else◌
prepare-requires c = omega (arith, rw c.in-Prepare.is at c.requires)

pub prepare_ok-requires : goal.prepare_ok-requires
unfolding room_of count_of when◌then◌else◌
prepare_ok-requires c = omega (arith, rw c.in-PrepareOk.is at c.requires)

pub commit-requires : goal.commit-requires
unfolding room_of count_of when◌then◌else◌
commit-requires c = omega (arith, rw c.in-Commit.is at c.requires)

pub get_state-requires : goal.get_state-requires
unfolding room_of count_of when◌then◌else◌
get_state-requires c = omega (arith, rw c.in-GetState.is at c.requires)

pub new_state-requires : goal.new_state-requires
unfolding room_of count_of when◌then◌else◌
new_state-requires c = omega (arith, rw c.in-NewState.is at c.requires)

pub start_view_change-requires : goal.start_view_change-requires
unfolding room_of count_of when◌then◌else◌
start_view_change-requires c = omega (arith, rw c.in-StartViewChange.is at c.requires)

pub do_view_change-requires : goal.do_view_change-requires
unfolding room_of count_of when◌then◌else◌
do_view_change-requires c = omega (arith, rw c.in-DoViewChange.is at c.requires)

pub start_view-requires : goal.start_view-requires
unfolding room_of count_of when◌then◌else◌
start_view-requires c = omega (arith, rw c.in-StartView.is at c.requires)

pub recovery-requires : goal.recovery-requires
unfolding room_of count_of when◌then◌else◌
recovery-requires c = omega (arith, rw c.in-Recovery.is at c.requires)

pub returns-in-Request : goal.returns-in-Request
unfolding message_of when◌then◌else◌
returns-in-Request c = rw c.in-Request.is c.request.ensures

pub returns-in-Prepare : goal.returns-in-Prepare
unfolding message_of when◌then◌else◌
returns-in-Prepare c = rw c.in-Prepare.is c.prepare.ensures

pub returns-in-PrepareOk : goal.returns-in-PrepareOk
unfolding message_of when◌then◌else◌
returns-in-PrepareOk c = rw c.in-PrepareOk.is c.prepare_ok.ensures

pub returns-in-Commit : goal.returns-in-Commit
unfolding message_of when◌then◌else◌
returns-in-Commit c = rw c.in-Commit.is c.commit.ensures

pub returns-in-GetState : goal.returns-in-GetState
unfolding message_of when◌then◌else◌
returns-in-GetState c = rw c.in-GetState.is c.get_state.ensures

pub returns-in-NewState : goal.returns-in-NewState
unfolding message_of when◌then◌else◌
returns-in-NewState c = rw c.in-NewState.is c.new_state.ensures

pub returns-in-StartViewChange : goal.returns-in-StartViewChange
unfolding message_of when◌then◌else◌
returns-in-StartViewChange c = rw c.in-StartViewChange.is c.start_view_change.ensures

pub returns-in-DoViewChange : goal.returns-in-DoViewChange
unfolding message_of when◌then◌else◌
returns-in-DoViewChange c = rw c.in-DoViewChange.is c.do_view_change.ensures

pub returns-in-StartView : goal.returns-in-StartView
unfolding message_of when◌then◌else◌
returns-in-StartView c = rw c.in-StartView.is c.start_view.ensures

pub returns-in-Recovery : goal.returns-in-Recovery
unfolding message_of when◌then◌else◌
returns-in-Recovery c = rw c.in-Recovery.is c.recovery.ensures

pub recovery_response-requires : goal.recovery_response-requires
recovery_response-requires c = omega (arith, rw c.in-RecoveryResponse.is at c.requires)

pub returns-in-RecoveryResponse : goal.returns-in-RecoveryResponse
unfolding message_of when◌then◌else◌
returns-in-RecoveryResponse c = rw c.in-RecoveryResponse.is c.recovery_response.ensures
