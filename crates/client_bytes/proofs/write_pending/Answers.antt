-- `client_bytes::write_pending` meets its contract. Assumes nothing.
use mathlib.Core.Path.{refl}
use Rattle.numbers.specs.Numbers.{big}
use Rattle.numbers.proofs.RunLaws.{over-lend}
use Rattle.client_bytes.proofs.LayoutLaws.{nothing_written, waiting-written}
use borrow.Author.Rules.{rules}
use Rattle.client_bytes.proofs.write_pending.Goals as goal

pub returns-in-None : goal.returns-in-None
returns-in-None c = nothing_written c.args.area.now c.in-None.is c.fill.ensures

pub returns-in-Some : goal.returns-in-Some
unfolding big
returns-in-Some c =
    let w = over-lend _ _ _ 1 refl c.write_u8.ensures c.write_entry.ensures in
    waiting-written _ c.args.area.now c.in-Some.is (search rules) w
