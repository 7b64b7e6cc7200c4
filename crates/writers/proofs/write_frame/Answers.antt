-- `writers::write_frame` meets its contract. Assumes nothing.
use Rattle.writers.specs.Writers.{encode, size_of, length_of}
use native.Mathlib.Omega.{arith}
use Rattle.writers.proofs.write_frame.Goals as goal

pub write_request-requires : goal.write_request-requires
unfolding encode size_of length_of
write_request-requires c = omega (arith, (rw c.in-Request.is at c.requires).fits)

pub prepare-requires : goal.prepare-requires
unfolding encode size_of length_of
prepare-requires c = omega (arith, (rw c.in-Prepare.is at c.requires).fits)

pub prepare_ok-requires : goal.prepare_ok-requires
unfolding encode size_of length_of
prepare_ok-requires c = omega (arith, (rw c.in-PrepareOk.is at c.requires).fits)

pub commit-requires : goal.commit-requires
unfolding encode size_of length_of
commit-requires c = omega (arith, (rw c.in-Commit.is at c.requires).fits)

pub get_state-requires : goal.get_state-requires
unfolding encode size_of length_of
get_state-requires c = omega (arith, (rw c.in-GetState.is at c.requires).fits)

pub new_state-requires : goal.new_state-requires
unfolding encode size_of length_of
new_state-requires c = let p = rw c.in-NewState.is at c.requires in (p.few, (p.log, p.fits))

pub start_view_change-requires : goal.start_view_change-requires
unfolding encode size_of length_of
start_view_change-requires c = omega (arith, (rw c.in-StartViewChange.is at c.requires).fits)

pub do_view_change-requires : goal.do_view_change-requires
unfolding encode size_of length_of
do_view_change-requires c = let p = rw c.in-DoViewChange.is at c.requires in (p.few, (p.log, p.fits))

pub start_view-requires : goal.start_view-requires
unfolding encode size_of length_of
start_view-requires c = let p = rw c.in-StartView.is at c.requires in (p.few, (p.log, p.fits))

pub recovery-requires : goal.recovery-requires
unfolding encode size_of length_of
recovery-requires c = omega (arith, (rw c.in-Recovery.is at c.requires).fits)

pub returns-in-Request : goal.returns-in-Request
unfolding encode size_of length_of
returns-in-Request c = rw c.in-Request.is c.write_request.ensures

pub returns-in-Prepare : goal.returns-in-Prepare
unfolding encode size_of length_of
returns-in-Prepare c = rw c.in-Prepare.is c.prepare.ensures

pub returns-in-PrepareOk : goal.returns-in-PrepareOk
unfolding encode size_of length_of
returns-in-PrepareOk c = rw c.in-PrepareOk.is c.prepare_ok.ensures

pub returns-in-Commit : goal.returns-in-Commit
unfolding encode size_of length_of
returns-in-Commit c = rw c.in-Commit.is c.commit.ensures

pub returns-in-GetState : goal.returns-in-GetState
unfolding encode size_of length_of
returns-in-GetState c = rw c.in-GetState.is c.get_state.ensures

pub returns-in-NewState : goal.returns-in-NewState
unfolding encode size_of length_of
returns-in-NewState c = rw c.in-NewState.is c.new_state.ensures

pub returns-in-StartViewChange : goal.returns-in-StartViewChange
unfolding encode size_of length_of
returns-in-StartViewChange c = rw c.in-StartViewChange.is c.start_view_change.ensures

pub returns-in-DoViewChange : goal.returns-in-DoViewChange
unfolding encode size_of length_of
returns-in-DoViewChange c = rw c.in-DoViewChange.is c.do_view_change.ensures

pub returns-in-StartView : goal.returns-in-StartView
unfolding encode size_of length_of
returns-in-StartView c = rw c.in-StartView.is c.start_view.ensures

pub returns-in-Recovery : goal.returns-in-Recovery
unfolding encode size_of length_of
returns-in-Recovery c = rw c.in-Recovery.is c.recovery.ensures
