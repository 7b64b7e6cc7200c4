-- `entries::breaks` meets its contract. Assumes nothing.
use Rattle.entries.proofs.RisingLaws.{other-client, same-client}
use Rattle.entries.proofs.breaks.Goals as goal

pub returns-then-read_u64-e : goal.returns-then-read_u64-e
returns-then-read_u64-e c =
    let a = c.args in
    other-client a.e a.s.now a.at c.read_u64.ensures c.if-read_u64-e.true

pub returns : goal.returns
returns c =
    let a = c.args in
    same-client a.e a.s.now a.at c.read_u64.ensures c.read_u64-2.ensures
    c.if-read_u64-e.false
