-- `book::append_part` meets its contract. Assumes nothing.
use Prim.Native.Nat.{◌*◌}
use lib.ListN.{take}
use Rattle.book.proofs.LogLaws.{with_part}
use Rattle.book.proofs.append_part.Goals as goal

pub returns : goal.returns
returns c =
    let a = c.args in
    let p = c.entry_place-p in
    with_part a.log.now (take (32 * a.k) a.part.now) a.n p.result p.ensures c.copy.ensures
