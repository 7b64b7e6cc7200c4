-- `entries::entry_ok` meets its contract. Assumes nothing.
use borrow.Author.Tests.{ne_eqb, eq-eqb}
use Rattle.numbers.specs.Words.{◌and◌}
use Rattle.entries.proofs.EntryLaws.{entry_ok-at}
use Rattle.entries.proofs.entry_ok.Goals as goal

pub returns-then-read_be-ne0 : goal.returns-then-read_be-ne0
unfolding ◌and◌
returns-then-read_be-ne0 c =
    let a = c.args in
    rw (entry_ok-at a.s.now a.at, ← c.read_be.ensures.0, ne_eqb _ _ c.if-read_be-ne0.true)

pub returns : goal.returns
unfolding ◌and◌
returns c =
    let a = c.args in
    rw (
      entry_ok-at a.s.now a.at,
      ← c.read_be.ensures.0,
      eq-eqb _ _ c.if-read_be-ne0.false,
      ← c.read_u8.ensures,
      ← c.read_u64.ensures,
    )
    c.operation_ok.ensures
