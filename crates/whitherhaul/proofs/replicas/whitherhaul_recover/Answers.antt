-- `whitherhaul::replicas::whitherhaul_recover` meets its contract. Assumes nothing.
use mathlib.Core.Path.{sym, ◌∙◌}
use mathlib.Core.List.{[]}
use Rattle.replica.specs.Lent.{lent}
use Rattle.whitherhaul.proofs.ReplicaLaws.{no-recovery, recover-unsized, recover-ran}
use Rattle.whitherhaul.proofs.replicas.whitherhaul_recover.Goals as goal

pub returns-then-state-ne154 : goal.returns-then-state-ne154
returns-then-state-ne154 c = let a = c.args in no-recovery (record { n = a.n; id = a.id; timeout = a.timeout; room = a.room; members = a.members }) (record { 0 = a.view }) a.nonce a.state.now (lent a.log.now a.results.now a.totals.now a.acks.now a.stored.now a.table.now a.out.now []) c.if-state-ne154.true

pub returns-then-not-sizes_ok : goal.returns-then-not-sizes_ok
returns-then-not-sizes_ok c = let a = c.args in recover-unsized (record { n = a.n; id = a.id; timeout = a.timeout; room = a.room; members = a.members }) (record { 0 = a.view }) a.nonce a.state.now (lent a.log.now a.results.now a.totals.now a.acks.now a.stored.now a.table.now a.out.now []) (sym c.sizes_ok.ensures ∙ c.if-not-sizes_ok.true)

pub returns : goal.returns
returns c = let a = c.args in rw (c.messages.ensures, c.replies.ensures) (recover-ran (record { n = a.n; id = a.id; timeout = a.timeout; room = a.room; members = a.members }) (record { 0 = a.view }) a.nonce a.state.now (lent a.log.now a.results.now a.totals.now a.acks.now a.stored.now a.table.now a.out.now []) c.setup_of-u.result _ _ c.if-state-ne154.false c.setup_of-u.ensures c.recover-a.ensures c.keep.ensures)
