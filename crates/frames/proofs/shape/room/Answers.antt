-- `frames::shape::room` meets its contract. Assumes nothing.
use borrow.Author.Tests.{eq-eqb, ne_eqb}
use Rattle.numbers.specs.Words.{when◌then◌else◌}
use Rattle.frames.specs.Kinds.{room_of}
use Rattle.frames.specs.declared.Kind.TheVariants.{RecoveryResponse}
use Rattle.frames.proofs.KindLaws.{is-kind, not-kind}
use Rattle.frames.proofs.shape.room.Goals as goal
use Rattle.frames.proofs.shape.room.Goals.{then-eq+else-read_u8-eq1, else-eq}

pub returns-then-read_u8-eq1 : goal.returns-then-read_u8-eq1
unfolding room_of when◌then◌else◌
returns-then-read_u8-eq1 c = rw (is-kind _ RecoveryResponse c.eq.ensures c.if-eq.true, ← c.read_u8.ensures, eq-eqb _ _ c.if-read_u8-eq1.true)

pub returns : goal.returns
unfolding room_of when◌then◌else◌
returns c =
    elim c.if-eq.branch [
      | then-eq+else-read_u8-eq1 w ↦ rw (is-kind _ RecoveryResponse c.eq.ensures w.if-eq.true, ← w.read_u8.ensures, ne_eqb _ _ w.if-read_u8-eq1.false) (rw (is-kind _ RecoveryResponse c.eq.ensures w.if-eq.true) at c.fields_end.ensures)
      | else-eq w ↦ rw (not-kind _ RecoveryResponse c.eq.ensures w.if-eq.false) c.fields_end.ensures
    ]
