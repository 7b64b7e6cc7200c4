-- `comparing::memory::store` meets its contract. Assumes nothing.
use Rattle.std.proofs.Common.{arith}
use Rattle.comparing.proofs.AreaLaws.{store-none, store-some}
use Rattle.comparing.proofs.memory.store.Goals as goal

pub returns-then-end-memory : goal.returns-then-end-memory
returns-then-end-memory c = store-some c.args.at c.args.run.now c.args.memory.now c.saturating_add-end.result (omega (arith, c.saturating_add-end.ensures, c.if-end-memory.true)) c.if-end-memory.true c.copy_from_slice.ensures.after

pub returns-else-end-memory : goal.returns-else-end-memory
returns-else-end-memory c = store-none c.args.at c.args.run.now c.args.memory.now (omega (arith, c.saturating_add-end.ensures, c.if-end-memory.false))
