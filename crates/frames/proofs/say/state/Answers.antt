-- `frames::say::state` meets its contract. Assumes nothing.
use native.Mathlib.Omega.{arith}
use borrow.Author.Tests.{eq-eqb, ne_eqb}
use Rattle.numbers.specs.Words.{when◌then◌else◌}
use Rattle.frames.specs.Kinds.{room_of}
use Rattle.frames.specs.Messages.{response_state}
use Rattle.frames.proofs.KindLaws.{least-room}
use Rattle.frames.proofs.say.state.Goals as goal

pub read_u8-requires : goal.read_u8-requires
read_u8-requires c = omega (arith, least-room 11 c.args.frame.now)

pub read_op-requires : goal.read_op-requires
unfolding room_of when◌then◌else◌
read_op-requires c = omega (arith, rw (← c.read_u8.ensures, eq-eqb _ _ c.if-read_u8-eq1.true) at c.requires)

pub read_op-requires-then-read_u8-eq1 : goal.read_op-requires-then-read_u8-eq1
unfolding room_of when◌then◌else◌
read_op-requires-then-read_u8-eq1 c = omega (arith, rw (← c.read_u8.ensures, eq-eqb _ _ c.if-read_u8-eq1.true) at c.requires)

pub returns-then-read_u8-eq1 : goal.returns-then-read_u8-eq1
unfolding response_state when◌then◌else◌
returns-then-read_u8-eq1 c = rw (← c.read_u8.ensures, eq-eqb _ _ c.if-read_u8-eq1.true, c.read_op.ensures, c.read_op-then-read_u8-eq1.ensures)

pub returns : goal.returns
unfolding response_state when◌then◌else◌
returns c = rw (← c.read_u8.ensures, ne_eqb _ _ c.if-read_u8-eq1.false)
