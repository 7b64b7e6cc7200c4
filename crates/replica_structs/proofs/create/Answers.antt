-- `replica_structs::create` meets its contract. Assumes nothing.
use Rattle.std.specs.Prelude.{[]}
use mathlib.Core.Path.{sym, ◌∙◌}
use Rattle.state.proofs.OutcomeLaws.{refused-code, done-code}
use Rattle.book.specs.Memory.{memory}
use Rattle.replica_structs.specs.Calls.{lent_rows}
use Rattle.replica_structs.proofs.PromiseLaws.{create-refused, create-rows}
use Rattle.replica_structs.proofs.create.Goals as goal

pub returns-then-is_err : goal.returns-then-is_err
returns-then-is_err c =
    let a = c.args in
    let y = c.create-a.new in
    create-refused (lent_rows a.log.now a.results.now a.totals.now a.acks.now a.stored.now a.table.now [] []) _ (memory a.log.now a.results.now y.totals y.acks a.stored.now [] []) a.u
    c.create-a.ensures (refused-code _ (sym c.is_err.ensures.value ∙ c.if-is_err.true))

pub returns : goal.returns
returns c =
    let a = c.args in
    let y = c.create-a.new in
    create-rows (lent_rows a.log.now a.results.now a.totals.now a.acks.now a.stored.now a.table.now [] []) _ (memory a.log.now a.results.now y.totals y.acks a.stored.now [] []) a.u
    c.create-a.ensures (done-code _ (sym c.is_err.ensures.value ∙ c.if-is_err.false)) c.clear.ensures
