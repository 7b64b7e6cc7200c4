-- `client_bytes::read_client` meets its contract. Assumes nothing.
use Rattle.client_bytes.proofs.LayoutLaws.{record_of-is}
use Rattle.client_bytes.proofs.read_client.Goals as goal

pub returns : goal.returns
returns c = record_of-is c.args.run.now c.read_u8.ensures c.read_u64.ensures c.read_view.ensures c.read_u64-2.ensures c.pending_in.ensures
