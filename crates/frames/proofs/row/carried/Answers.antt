-- `frames::row::carried` meets its contract. Assumes nothing.
use Rattle.frames.specs.Messages.{carried_of}
use Rattle.frames.proofs.row.carried.Goals as goal

pub returns-in-Request : goal.returns-in-Request
unfolding carried_of
returns-in-Request c = rw c.in-Request.is c.row.ensures

pub returns-in-Prepare : goal.returns-in-Prepare
unfolding carried_of
returns-in-Prepare c = rw c.in-Prepare.is c.row-in-Prepare.ensures

pub returns-in-PrepareOk : goal.returns-in-PrepareOk
unfolding carried_of
returns-in-PrepareOk c = rw c.in-PrepareOk.is c.row-in-PrepareOk.ensures

pub returns-in-Commit : goal.returns-in-Commit
unfolding carried_of
returns-in-Commit c = rw c.in-Commit.is c.row-in-Commit.ensures

pub returns-in-GetState : goal.returns-in-GetState
unfolding carried_of
returns-in-GetState c = rw c.in-GetState.is c.row-in-GetState.ensures

pub returns-in-NewState : goal.returns-in-NewState
unfolding carried_of
returns-in-NewState c = rw c.in-NewState.is c.row-in-NewState.ensures

pub returns-in-StartViewChange : goal.returns-in-StartViewChange
unfolding carried_of
returns-in-StartViewChange c = rw c.in-StartViewChange.is c.row-in-StartViewChange.ensures

pub returns-in-DoViewChange : goal.returns-in-DoViewChange
unfolding carried_of
returns-in-DoViewChange c = rw c.in-DoViewChange.is c.row-in-DoViewChange.ensures

pub returns-in-StartView : goal.returns-in-StartView
unfolding carried_of
returns-in-StartView c = rw c.in-StartView.is c.row-in-StartView.ensures

pub returns-in-Recovery : goal.returns-in-Recovery
unfolding carried_of
returns-in-Recovery c = rw c.in-Recovery.is c.row-in-Recovery.ensures

pub returns-in-RecoveryResponse : goal.returns-in-RecoveryResponse
unfolding carried_of
returns-in-RecoveryResponse c = rw c.in-RecoveryResponse.is c.response.ensures
