-- `state_bytes::flag::write_flag` meets its contract. Assumes nothing.
use Rattle.state_bytes.proofs.LayoutLaws.{flag-byte}
use Rattle.state_bytes.proofs.flag.write_flag.Goals as goal

pub returns : goal.returns
returns c = rw (← flag-byte c.args.b) c.write_u8.ensures
