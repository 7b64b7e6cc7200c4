-- `replica_structs::on_idle` meets its contract. Assumes nothing.
use mathlib.Core.Path.{refl}
use Rattle.std.specs.Prelude.{length}
use Rattle.book.specs.Memory.{memory}
use Rattle.replica_structs.specs.Calls.{lent_rows}
use Rattle.replica_structs.proofs.CoreLaws.{idle-ready}
use Rattle.replica_structs.proofs.PromiseLaws.{follow-needs, idle-rows}
use Rattle.replica_structs.proofs.on_idle.Goals as goal

pub follow-requires : goal.follow-requires
follow-requires c =
    let a = c.args in
    let x = lent_rows a.log.now a.results.now a.totals.now a.acks.now a.stored.now a.table.now a.out.now a.reps.now in
    let y = c.on_idle-a.new in
    let m = memory y.log y.results y.totals y.acks y.stored y.out y.reps in
    follow-needs a.s x c.on_idle-a.result m _ c.on_idle-a.ensures (idle-ready a.s (length a.table.now) x.core) c.change_after.result c.change_after.ensures

pub returns : goal.returns
returns c =
    let a = c.args in
    let x = lent_rows a.log.now a.results.now a.totals.now a.acks.now a.stored.now a.table.now a.out.now a.reps.now in
    let y = c.on_idle-a.new in
    let m = memory y.log y.results y.totals y.acks y.stored y.out y.reps in
    idle-rows a.s x c.on_idle-a.result m _ c.on_idle-a.ensures (idle-ready a.s (length a.table.now) x.core) c.change_after.result c.change_after.ensures
    c.follow.ensures refl
