-- `entries::entry_at` meets its contract. Assumes nothing.
use Rattle.entries.proofs.EntryLaws.{entry_of-at}
use Rattle.entries.proofs.entry_at.Goals as goal

pub returns : goal.returns
returns c =
    let a = c.args in
    entry_of-at a.s.now a.at c.read_u64.ensures c.read_u64-2.ensures c.read_u8.ensures c.read_u32.ensures c.read_u64-3.ensures
