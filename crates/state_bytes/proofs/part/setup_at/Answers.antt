-- `state_bytes::part::setup_at` meets its contract. Assumes nothing.
use Rattle.state_bytes.proofs.ReadLaws.{setup_of-at}
use Rattle.state_bytes.proofs.part.setup_at.Goals as goal

pub returns : goal.returns
returns c = setup_of-at _ _ c.read_u8.ensures c.read_u8-2.ensures c.read_u16.ensures c.read_u32.ensures c.read_u32-2.ensures
