-- `frames::say::recovery_response` meets its contract. Assumes nothing.
use native.Mathlib.Omega.{arith}
use Rattle.frames.proofs.KindLaws.{least-room}
use Rattle.frames.proofs.say.recovery_response.Goals as goal

pub read_view-requires : goal.read_view-requires
read_view-requires c = omega (arith, least-room 11 c.args.frame.now)

pub read_u64-requires : goal.read_u64-requires
read_u64-requires c = omega (arith, least-room 11 c.args.frame.now)

pub read_u8-requires : goal.read_u8-requires
read_u8-requires c = omega (arith, least-room 11 c.args.frame.now)
