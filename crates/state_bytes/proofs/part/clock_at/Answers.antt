-- `state_bytes::part::clock_at` meets its contract. Assumes nothing.
use Rattle.state_bytes.proofs.ReadLaws.{clock_of-at}
use Rattle.state_bytes.proofs.part.clock_at.Goals as goal

pub returns : goal.returns
returns c = clock_of-at _ _ c.flag_at.ensures c.read_u32.ensures c.read_u16.ensures c.read_u8.ensures
