-- `client_bytes::pending_in` meets its contract. Assumes nothing.
use Rattle.client_bytes.proofs.LayoutLaws.{nothing-pending, pending-at}
use Rattle.client_bytes.proofs.pending_in.Goals as goal

pub returns-then-read_u8-eq0 : goal.returns-then-read_u8-eq0
returns-then-read_u8-eq0 c = nothing-pending c.args.run.now c.read_u8.ensures c.if-read_u8-eq0.true

pub returns : goal.returns
returns c = pending-at c.args.run.now c.read_u8.ensures c.if-read_u8-eq0.false c.entry_at.ensures
