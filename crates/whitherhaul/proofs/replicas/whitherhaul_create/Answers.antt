-- `whitherhaul::replicas::whitherhaul_create` meets its contract. Assumes nothing.
use mathlib.Core.Path.{sym, ◌∙◌}
use mathlib.Core.List.{[]}
use Rattle.replica.specs.Lent.{lent}
use Rattle.whitherhaul.proofs.ReplicaLaws.{no-creation, create-unsized, create-ran}
use Rattle.whitherhaul.proofs.replicas.whitherhaul_create.Goals as goal

pub returns-then-state-ne154 : goal.returns-then-state-ne154
returns-then-state-ne154 c = let a = c.args in no-creation (record { n = a.n; id = a.id; timeout = a.timeout; room = a.room; members = a.members }) a.state.now (lent a.log.now a.results.now a.totals.now a.acks.now a.stored.now a.table.now [] []) c.if-state-ne154.true

pub returns-then-not-sizes_ok : goal.returns-then-not-sizes_ok
returns-then-not-sizes_ok c = let a = c.args in create-unsized (record { n = a.n; id = a.id; timeout = a.timeout; room = a.room; members = a.members }) a.state.now (lent a.log.now a.results.now a.totals.now a.acks.now a.stored.now a.table.now [] []) (sym c.sizes_ok.ensures ∙ c.if-not-sizes_ok.true)

pub returns : goal.returns
returns c = let a = c.args in create-ran (record { n = a.n; id = a.id; timeout = a.timeout; room = a.room; members = a.members }) a.state.now (lent a.log.now a.results.now a.totals.now a.acks.now a.stored.now a.table.now [] []) c.setup_of-u.result _ _ c.if-state-ne154.false c.setup_of-u.ensures c.create.ensures c.keep.ensures
