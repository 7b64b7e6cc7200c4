-- `comparing::memory::spoil` meets its contract. Assumes nothing.
use Rattle.comparing.proofs.AreaLaws.{spoil-none, spoil-some}
use Rattle.comparing.proofs.memory.spoil.Goals as goal

pub returns-then-n-area : goal.returns-then-n-area
returns-then-n-area c = spoil-some c.args.n c.args.area.now c.if-n-area.true (c.fill.ensures.after (λ y h. h))

pub returns-else-n-area : goal.returns-else-n-area
returns-else-n-area c = spoil-none c.args.n c.args.area.now c.if-n-area.false
