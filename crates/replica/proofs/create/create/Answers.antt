-- `replica::create::create` meets its contract. Assumes nothing.
use native.Mathlib.Omega.{arith}
use mathlib.Core.Path.{sym, ◌∙◌}
use mathlib.Core.List.{[]}
use Rattle.state.proofs.OutcomeLaws.{refused-code, done-code}
use Rattle.outside.proofs.CreateLaws.{create-long}
use Rattle.replica.proofs.CallLaws.{stays-cleared, is-cleared}
use Rattle.replica.proofs.PromiseLaws.{create-promised}
use Rattle.replica.specs.Lent.{lent, lengths_of}
use Rattle.replica.specs.Calls.{create_call}
use Rattle.replica.proofs.create.create.Goals as goal

pub returns-then-is_err : goal.returns-then-is_err
unfolding create_call
returns-then-is_err c = let a = c.args in let x = (lent a.log.now a.results.now a.totals.now a.acks.now a.stored.now a.table.now [] []) in create-promised a.u x _ (stays-cleared a.u x c.create-a.ensures (refused-code _ (sym c.is_err.ensures.value ∙ c.if-is_err.true)))

pub fill-requires : goal.fill-requires
fill-requires c = let a = c.args in let x = (lent a.log.now a.results.now a.totals.now a.acks.now a.stored.now a.table.now [] []) in let k = create-long a.u (lengths_of x) a.totals.now a.acks.now [] c.create-a.ensures (done-code _ (sym c.is_err.ensures.value ∙ c.if-is_err.false)) in omega (arith, k.1.table)

pub returns : goal.returns
unfolding create_call
returns c = let a = c.args in let x = (lent a.log.now a.results.now a.totals.now a.acks.now a.stored.now a.table.now [] []) in create-promised a.u x _ (is-cleared a.u x c.create-a.ensures (done-code _ (sym c.is_err.ensures.value ∙ c.if-is_err.false)) c.fill.ensures)
