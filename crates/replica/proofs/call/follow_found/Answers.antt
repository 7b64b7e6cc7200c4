-- `replica::call::follow_found` meets its contract. Assumes nothing.
use mathlib.Core.Path.{sym, ◌∙◌}
use native.Mathlib.Omega.{arith}
use Rattle.state.proofs.OutcomeLaws.{refused-code, done-code}
use Rattle.replica.proofs.CallLaws.{follow-refused, follow-done}
use Rattle.replica.proofs.call.follow_found.Goals as goal

pub returns-then-is_err : goal.returns-then-is_err
returns-then-is_err c = follow-refused c.args.s c.args.a c.args.log.now c.args.results.now c.args.table.now (refused-code _ (sym c.is_err.ensures.value ∙ c.if-is_err.true))

pub returns : goal.returns
returns c =
    let a = c.args in
    follow-done a.s a.a a.log.now a.results.now a.table.now (done-code _ (sym c.is_err.ensures.value ∙ c.if-is_err.false)) c.change_by-k.result
    c.change_by-k.ensures c.requires.0 (λ i. omega (arith, c.type_inv.table i)) c.follow_found.ensures
