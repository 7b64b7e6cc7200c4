-- `replica::create::recover` meets its contract. Assumes nothing.
use native.Mathlib.Omega.{arith}
use mathlib.Core.Path.{sym, ◌∙◌}
use mathlib.Core.List.{[]}
use Rattle.state.proofs.OutcomeLaws.{refused-code, done-code}
use Rattle.outside.proofs.CreateLaws.{recover-long}
use Rattle.replica.proofs.CallLaws.{stays-cleared, is-cleared}
use Rattle.replica.proofs.PromiseLaws.{recover-promised}
use Rattle.replica.specs.Lent.{lent, lengths_of}
use Rattle.replica.specs.Calls.{recover_call}
use Rattle.replica.proofs.create.recover.Goals as goal

pub returns-then-is_err : goal.returns-then-is_err
unfolding recover_call
returns-then-is_err c = let a = c.args in let x = (lent a.log.now a.results.now a.totals.now a.acks.now a.stored.now a.table.now a.out.now []) in recover-promised a.u a.v a.nonce x _ (stays-cleared a.u x c.recover-a.ensures (refused-code _ (sym c.is_err.ensures.value ∙ c.if-is_err.true)))

pub fill-requires : goal.fill-requires
fill-requires c = let a = c.args in let x = (lent a.log.now a.results.now a.totals.now a.acks.now a.stored.now a.table.now a.out.now []) in let k = recover-long a.u (lengths_of x) a.totals.now a.acks.now a.out.now a.v a.nonce c.recover-a.ensures (done-code _ (sym c.is_err.ensures.value ∙ c.if-is_err.false)) in omega (arith, k.1.table)

pub returns : goal.returns
unfolding recover_call
returns c = let a = c.args in let x = (lent a.log.now a.results.now a.totals.now a.acks.now a.stored.now a.table.now a.out.now []) in recover-promised a.u a.v a.nonce x _ (is-cleared a.u x c.recover-a.ensures (done-code _ (sym c.is_err.ensures.value ∙ c.if-is_err.false)) c.fill.ensures)
