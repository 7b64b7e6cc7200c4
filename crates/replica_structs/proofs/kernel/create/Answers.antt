-- `replica_structs::kernel::create` meets its contract. Assumes nothing.
use Rattle.std.specs.Prelude.{[]}
use Rattle.book.specs.Memory.{memory}
use Rattle.replica_structs.proofs.CoreLaws.{create-counted}
use Rattle.replica_structs.proofs.kernel.create.Goals as goal

pub returns : goal.returns
returns c =
    let a = c.args in
    create-counted (memory a.log.now a.results.now a.totals.now a.acks.now a.stored.now [] []) a.rows c.in_bytes.ensures a.u c.create.ensures
