-- `frames::shape::count` meets its contract. Assumes nothing.
use native.Mathlib.Omega.{arith}
use borrow.Author.Tests.{eq-eqb, leb-true}
use Rattle.numbers.specs.Words.{when◌then◌else◌}
use Rattle.frames.specs.Kinds.{kind_number, room_of, fields_ok, count_of}
use Rattle.frames.proofs.KindLaws.{least-room, other-kind}
use Rattle.frames.proofs.shape.count.Goals as goal

pub count_new_state-requires : goal.count_new_state-requires
unfolding room_of fields_ok when◌then◌else◌
count_new_state-requires c = (omega (arith, rw c.in-NewState.is at c.requires.0), leb-true _ _ (rw c.in-NewState.is at c.requires.1))

pub read_u32-requires : goal.read_u32-requires
unfolding room_of when◌then◌else◌
read_u32-requires c = omega (arith, rw c.in-DoViewChange.is at c.requires.0)

pub read_u32-requires-in-StartView : goal.read_u32-requires-in-StartView
unfolding room_of when◌then◌else◌
read_u32-requires-in-StartView c = omega (arith, rw c.in-StartView.is at c.requires.0)

pub count_response-requires : goal.count_response-requires
unfolding room_of when◌then◌else◌
count_response-requires c =
    let a = c.args in
    let p = rw c.in-RecoveryResponse.is at c.requires.0 in
    (omega (arith, rw c.in-RecoveryResponse.is at (least-room (kind_number a.kind) a.frame.now), p), λ e. omega (arith, rw (eq-eqb _ _ e) at p))

pub returns-in-Request : goal.returns-in-Request
unfolding count_of when◌then◌else◌
returns-in-Request c = rw c.in-Request.is

pub returns-in-Prepare : goal.returns-in-Prepare
unfolding count_of when◌then◌else◌
returns-in-Prepare c = rw c.in-Prepare.is

pub returns-in-NewState : goal.returns-in-NewState
unfolding count_of when◌then◌else◌
returns-in-NewState c = rw c.in-NewState.is c.count_new_state.ensures

pub returns-in-DoViewChange : goal.returns-in-DoViewChange
unfolding count_of when◌then◌else◌
returns-in-DoViewChange c = rw c.in-DoViewChange.is c.read_u32.ensures

pub returns-in-StartView : goal.returns-in-StartView
unfolding count_of when◌then◌else◌
returns-in-StartView c = rw c.in-StartView.is c.read_u32-in-StartView.ensures

pub returns-in-RecoveryResponse : goal.returns-in-RecoveryResponse
unfolding count_of when◌then◌else◌
returns-in-RecoveryResponse c = rw c.in-RecoveryResponse.is c.count_response.ensures

pub returns-in_default : goal.returns-in_default
unfolding count_of when◌then◌else◌
returns-in_default c =
    let r = c.in_default in
    rw (other-kind r.not-Request, other-kind r.not-Prepare, other-kind r.not-NewState, other-kind r.not-DoViewChange, other-kind r.not-StartView, other-kind r.not-RecoveryResponse)
