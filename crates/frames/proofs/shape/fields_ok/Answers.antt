-- `frames::shape::fields_ok` meets its contract. Assumes nothing.
use Rattle.numbers.specs.Words.{when◌then◌else◌}
use Rattle.frames.specs.Kinds.{fields_ok}
use Rattle.frames.proofs.KindLaws.{other-kind}
use Rattle.frames.proofs.shape.fields_ok.Goals as goal

pub returns-in-NewState : goal.returns-in-NewState
unfolding fields_ok when◌then◌else◌
returns-in-NewState c = rw (c.in-NewState.is, ← c.read_u32.ensures, ← c.read_u32-in-NewState.ensures)

pub returns-in-RecoveryResponse : goal.returns-in-RecoveryResponse
unfolding fields_ok when◌then◌else◌
returns-in-RecoveryResponse c = rw (c.in-RecoveryResponse.is, ← c.read_u8.ensures)

pub returns-in_default : goal.returns-in_default
unfolding fields_ok when◌then◌else◌
returns-in_default c = rw (other-kind c.in_default.not-NewState, other-kind c.in_default.not-RecoveryResponse)
