-- `replica_structs::kernel::recover` meets its contract. Assumes nothing.
use Rattle.std.specs.Prelude.{[]}
use Rattle.book.specs.Memory.{memory}
use Rattle.replica_structs.proofs.CoreLaws.{recover-counted}
use Rattle.replica_structs.proofs.kernel.recover.Goals as goal

pub returns : goal.returns
returns c =
    let a = c.args in
    recover-counted (memory a.log.now a.results.now a.totals.now a.acks.now a.stored.now a.out.now []) a.rows c.in_bytes.ensures a.u a.v a.nonce c.recover.ensures
