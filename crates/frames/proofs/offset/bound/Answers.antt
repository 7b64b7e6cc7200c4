-- `frames::offset::bound` meets its contract. Assumes nothing.
use Rattle.numbers.specs.Words.{when◌then◌else◌}
use Rattle.frames.specs.FrameRules.{bound_rule}
use Rattle.frames.proofs.KindLaws.{other-kind}
use Rattle.frames.proofs.offset.bound.Goals as goal

pub returns-in-NewState : goal.returns-in-NewState
unfolding bound_rule when◌then◌else◌
returns-in-NewState c = let k = c.in-NewState.is in rw (k, ← rw k at c.count_for-count.ensures.0) c.part.ensures

pub returns-in-DoViewChange : goal.returns-in-DoViewChange
unfolding bound_rule when◌then◌else◌
returns-in-DoViewChange c = let k = c.in-DoViewChange.is in rw (k, ← rw k at c.count_for-count.ensures.0) c.log.ensures

pub returns-in-StartView : goal.returns-in-StartView
unfolding bound_rule when◌then◌else◌
returns-in-StartView c = let k = c.in-StartView.is in rw (k, ← rw k at c.count_for-count.ensures.0) c.log-in-StartView.ensures

pub returns-in-RecoveryResponse : goal.returns-in-RecoveryResponse
unfolding bound_rule when◌then◌else◌
returns-in-RecoveryResponse c = let k = c.in-RecoveryResponse.is in rw (k, ← rw k at c.count_for-count.ensures.0) c.from_mark.ensures

pub returns-in_default : goal.returns-in_default
unfolding bound_rule when◌then◌else◌
returns-in_default c =
    let r = c.in_default in
    rw (other-kind r.not-NewState, other-kind r.not-DoViewChange, other-kind r.not-StartView, other-kind r.not-RecoveryResponse, ← c.count_for-count.ensures.0) c.entries.ensures
