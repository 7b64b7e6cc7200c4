-- `whitherhaul::replicas::tick_whole` meets its contract. Assumes nothing.
use Rattle.whitherhaul.proofs.ReplicaLaws.{idle-ran}
use native.Mathlib.Omega.{arith}
use Rattle.replica.specs.Lent.{lent}
use Rattle.state_bytes.proofs.ReadLaws.{state-long}
use Rattle.whitherhaul.proofs.replicas.tick_whole.Goals as goal

pub read_state-requires : goal.read_state-requires
read_state-requires c = omega (arith, state-long _ c.requires)

pub keep-requires : goal.keep-requires
keep-requires c = state-long _ c.requires

pub returns : goal.returns
returns c = rw (c.messages.ensures, c.replies.ensures) (idle-ran c.args.state.now (lent c.args.log.now c.args.results.now c.args.totals.now c.args.acks.now c.args.stored.now c.args.table.now c.args.out.now c.args.reps.now) _ _ _ c.requires c.read_state.ensures c.on_idle-a.ensures c.keep.ensures)
