-- `book::append` meets its contract. Assumes nothing.
use Rattle.entries.specs.Entries.{encode_entry}
use Rattle.book.proofs.LogLaws.{with_part}
use Rattle.book.proofs.append.Goals as goal

pub returns : goal.returns
returns c =
    let a = c.args in
    let p = c.entry_place-p in
    with_part a.log.now (encode_entry a.e) a.n p.result p.ensures c.write_entry.ensures
