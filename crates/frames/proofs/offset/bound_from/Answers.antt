-- `frames::offset::bound_from` meets its contract. Assumes nothing.
use native.Mathlib.Omega.{arith}
use lib.Dec.{lit≤}
use Rattle.numbers.specs.Words.{when◌then◌else◌}
use Rattle.frames.specs.FrameRules.{bound_from}
use Rattle.frames.specs.Kinds.{kind_number}
use Rattle.frames.proofs.KindLaws.{kind-low, kind-high, other-kind}
use Rattle.frames.proofs.BodyLaws.{seven}
use Rattle.frames.proofs.offset.bound_from.Goals as goal

pub returns-in-NewState : goal.returns-in-NewState
unfolding bound_from when◌then◌else◌
returns-in-NewState c = (rw c.in-NewState.is, lit≤ tt)

pub returns-in-DoViewChange : goal.returns-in-DoViewChange
unfolding bound_from when◌then◌else◌
returns-in-DoViewChange c = (rw c.in-DoViewChange.is, lit≤ tt)

pub returns-in-StartView : goal.returns-in-StartView
unfolding bound_from when◌then◌else◌
returns-in-StartView c = (rw c.in-StartView.is, lit≤ tt)

pub returns-in-RecoveryResponse : goal.returns-in-RecoveryResponse
unfolding bound_from when◌then◌else◌
returns-in-RecoveryResponse c = (rw c.in-RecoveryResponse.is, lit≤ tt)

pub returns-in_default : goal.returns-in_default
unfolding bound_from when◌then◌else◌
returns-in_default c =
    let r = c.in_default in (
      rw (other-kind r.not-NewState, other-kind r.not-DoViewChange, other-kind r.not-StartView, other-kind r.not-RecoveryResponse) c.fields_end.ensures,
      omega (arith, c.fields_end.ensures, seven (kind_number c.args.kind) (kind-low c.args.kind) (kind-high c.args.kind)),
    )
