-- `replica_structs::on_message` meets its contract. Assumes nothing.
use mathlib.Core.Path.{refl}
use Rattle.std.specs.Prelude.{length}
use Rattle.book.specs.Memory.{memory}
use Rattle.replica_structs.specs.Calls.{lent_rows}
use Rattle.replica_structs.proofs.CoreLaws.{passes, message-ready}
use Rattle.replica_structs.proofs.PromiseLaws.{follow-needs, message-rows}
use Rattle.replica_structs.proofs.PointLaws.{rows-points}
use Rattle.replica_structs.proofs.on_message.Goals as goal

pub on_message-a-requires : goal.on_message-a-requires
on_message-a-requires c =
    let a = c.args in
    let m = memory a.log.now a.results.now a.totals.now a.acks.now a.stored.now a.out.now a.reps.now in
    passes c.checked-c.result a.s (length a.table.now) a.frame.now m c.checked-c.ensures

pub follow-requires : goal.follow-requires
follow-requires c =
    let a = c.args in
    let x = lent_rows a.log.now a.results.now a.totals.now a.acks.now a.stored.now a.table.now a.out.now a.reps.now in
    let y = c.on_message-a.new in
    let m = memory y.log y.results y.totals y.acks y.stored y.out y.reps in
    follow-needs a.s x c.on_message-a.result m _ c.on_message-a.ensures.0
    (message-ready a.s _ a.frame.now x.core (length a.table.now) _ c.checked-c.ensures) c.change_after.result c.change_after.ensures

pub returns : goal.returns
returns c =
    let a = c.args in
    let x = lent_rows a.log.now a.results.now a.totals.now a.acks.now a.stored.now a.table.now a.out.now a.reps.now in
    let y = c.on_message-a.new in
    let m = memory y.log y.results y.totals y.acks y.stored y.out y.reps in
    let n = c.latest_in-latest.result in (
      message-rows a.s x c.on_message-a.result m _ c.on_message-a.ensures.0
          (message-ready a.s n a.frame.now x.core (length a.table.now) _ c.checked-c.ensures) c.change_after.result c.change_after.ensures
          c.follow.ensures a.frame.now _ c.checked-c.ensures _ c.client_in.ensures n c.latest_in-latest.ensures refl,
      rows-points a.s (length a.table.now) n a.frame.now x.core _ c.checked-c.ensures _ m c.on_message-a.ensures.0,
    )
