-- `normal::prepare::take_prepare` meets its contract. Assumes nothing.
use Rattle.normal.proofs.PrepareLaws.{op-small, room-left, weighed, acked-again}
use Rattle.normal.proofs.CommitLaws.{some}
use mathlib.Core.Path.{ap}
use Rattle.steps.specs.Steps.{left, alone}
use Rattle.book.specs.Memory.{runs}
use Rattle.state.specs.declared.Returned.{Returned}
use Rattle.normal.specs.Prepare.{by_prepare_verdict}
use Rattle.normal.proofs.prepare.take_prepare.Goals as goal

pub weigh-requires : goal.weigh-requires
weigh-requires c = op-small c.args.s _ c.requires

pub state_transfer-requires : goal.state_transfer-requires
state_transfer-requires c = some c.args.s _ c.requires

pub append-requires : goal.append-requires
append-requires c = let a = c.args in (c.requires, room-left a.s a.p _ c.weigh.ensures.exact c.in-Append.is)

pub returns-in-Transfer : goal.returns-in-Transfer
unfolding by_prepare_verdict
returns-in-Transfer c = let a = c.args in weighed a.s a.p _ a.out.now _ _ _ c.weigh.ensures.exact c.in-Transfer.is (ap (alone (runs a.log.now a.results.now a.totals.now)) c.state_transfer.ensures)

pub returns-in-Again : goal.returns-in-Again
returns-in-Again c = let a = c.args in weighed a.s a.p _ a.out.now _ _ _ c.weigh.ensures.exact c.in-Again.is (acked-again a.s a.p _ a.out.now _ _ _ c.heard-u.ensures c.lower.ensures c.acknowledge.ensures)

pub returns-in-Refuse : goal.returns-in-Refuse
unfolding by_prepare_verdict
returns-in-Refuse c = let a = c.args in weighed a.s a.p _ a.out.now _ _ _ c.weigh.ensures.exact c.in-Refuse.is (ap (λ (x : Returned). left x (runs a.log.now a.results.now a.totals.now) a.out.now) c.refused.ensures)

pub returns-in-Append : goal.returns-in-Append
unfolding by_prepare_verdict
returns-in-Append c = let a = c.args in weighed a.s a.p _ a.out.now _ _ _ c.weigh.ensures.exact c.in-Append.is c.append.ensures
