-- `replica_structs::recover` meets its contract. Assumes nothing.
use Rattle.std.specs.Prelude.{[]}
use mathlib.Core.Path.{sym, ◌∙◌}
use Rattle.state.proofs.OutcomeLaws.{refused-code, done-code}
use Rattle.book.specs.Memory.{memory}
use Rattle.replica_structs.specs.Calls.{lent_rows}
use Rattle.replica_structs.proofs.PromiseLaws.{recover-refused, recover-rows}
use Rattle.replica_structs.proofs.recover.Goals as goal

pub returns-then-is_err : goal.returns-then-is_err
returns-then-is_err c =
    let a = c.args in
    let y = c.recover-a.new in
    recover-refused (lent_rows a.log.now a.results.now a.totals.now a.acks.now a.stored.now a.table.now a.out.now []) _ (memory a.log.now a.results.now y.totals y.acks a.stored.now c.recover-a.new.out []) a.u a.v a.nonce
    c.recover-a.ensures (refused-code _ (sym c.is_err.ensures.value ∙ c.if-is_err.true))

pub returns : goal.returns
returns c =
    let a = c.args in
    let y = c.recover-a.new in
    recover-rows (lent_rows a.log.now a.results.now a.totals.now a.acks.now a.stored.now a.table.now a.out.now []) _ (memory a.log.now a.results.now y.totals y.acks a.stored.now c.recover-a.new.out []) a.u a.v a.nonce
    c.recover-a.ensures (done-code _ (sym c.is_err.ensures.value ∙ c.if-is_err.false)) c.clear.ensures
