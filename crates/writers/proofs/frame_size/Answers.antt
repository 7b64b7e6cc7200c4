-- `writers::frame_size` meets its contract. Assumes nothing.
use Rattle.writers.specs.Writers.{size_of}
use Rattle.writers.proofs.frame_size.Goals as goal

pub returns-in-Request : goal.returns-in-Request
unfolding size_of
returns-in-Request c = rw c.in-Request.is c.sized.ensures

pub returns-in-Prepare : goal.returns-in-Prepare
unfolding size_of
returns-in-Prepare c = rw c.in-Prepare.is c.sized-in-Prepare.ensures

pub returns-in-PrepareOk : goal.returns-in-PrepareOk
unfolding size_of
returns-in-PrepareOk c = rw c.in-PrepareOk.is c.sized-in-PrepareOk.ensures

pub returns-in-Commit : goal.returns-in-Commit
unfolding size_of
returns-in-Commit c = rw c.in-Commit.is c.sized-in-Commit.ensures

pub returns-in-GetState : goal.returns-in-GetState
unfolding size_of
returns-in-GetState c = rw c.in-GetState.is c.sized-in-GetState.ensures

pub returns-in-NewState : goal.returns-in-NewState
unfolding size_of
returns-in-NewState c = rw (c.in-NewState.is, ← c.span.ensures) c.sized-in-NewState.ensures

pub returns-in-StartViewChange : goal.returns-in-StartViewChange
unfolding size_of
returns-in-StartViewChange c = rw c.in-StartViewChange.is c.sized-in-StartViewChange.ensures

pub returns-in-DoViewChange : goal.returns-in-DoViewChange
unfolding size_of
returns-in-DoViewChange c = rw c.in-DoViewChange.is c.sized-in-DoViewChange.ensures

pub returns-in-StartView : goal.returns-in-StartView
unfolding size_of
returns-in-StartView c = rw c.in-StartView.is c.sized-in-StartView.ensures

pub returns-in-Recovery : goal.returns-in-Recovery
unfolding size_of
returns-in-Recovery c = rw c.in-Recovery.is c.sized-in-Recovery.ensures

pub returns-in-RecoveryResponse : goal.returns-in-RecoveryResponse
unfolding size_of
returns-in-RecoveryResponse c = rw c.in-RecoveryResponse.is c.response_size.ensures
