-- `whitherhaul::replicas::tick_usual` meets its contract. Assumes nothing.
use native.Mathlib.Omega.{arith}
use mathlib.Core.Path.{sym, ◌∙◌}
use Rattle.replica.specs.Lent.{lent}
use Rattle.state_bytes.proofs.ReadLaws.{state-long}
use Rattle.whitherhaul.proofs.ReplicaLaws.{idle-ran, leading-kept}
use Rattle.whitherhaul.proofs.replicas.tick_usual.Goals as goal

pub read_quiet-s-requires : goal.read_quiet-s-requires
read_quiet-s-requires c = (omega (arith, state-long _ c.requires.0), c.requires.1)

pub keep_clocked-requires : goal.keep_clocked-requires
keep_clocked-requires c = (c.requires.0, leading-kept c.args.state.now (lent c.args.log.now c.args.results.now c.args.totals.now c.args.acks.now c.args.stored.now c.args.table.now c.args.out.now c.args.reps.now) _ c.read_quiet-s.ensures _ _ (sym c.is_leading.ensures ∙ c.if-not-is_leading.false) c.on_idle-a.ensures)

pub returns : goal.returns
returns c = rw (c.messages.ensures, c.replies.ensures) (idle-ran c.args.state.now (lent c.args.log.now c.args.results.now c.args.totals.now c.args.acks.now c.args.stored.now c.args.table.now c.args.out.now c.args.reps.now) _ _ _ c.requires.0 c.read_quiet-s.ensures c.on_idle-a.ensures c.keep_clocked.ensures)
