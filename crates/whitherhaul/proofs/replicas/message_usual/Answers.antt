-- `whitherhaul::replicas::message_usual` meets its contract. Assumes nothing.
use Rattle.whitherhaul.proofs.ReplicaLaws.{message-ran, usual-kept}
use mathlib.Core.Path.{sym, ◌∙◌}
use native.Mathlib.Omega.{arith}
use Rattle.replica.specs.Lent.{lent}
use Rattle.state_bytes.proofs.ReadLaws.{state-long}
use Rattle.whitherhaul.proofs.replicas.message_usual.Goals as goal

pub read_quiet-s-requires : goal.read_quiet-s-requires
read_quiet-s-requires c = (omega (arith, state-long _ c.requires.0), c.requires.1)

pub keep_onward-requires : goal.keep_onward-requires
keep_onward-requires c = (c.requires.0, usual-kept c.args.state.now (lent c.args.log.now c.args.results.now c.args.totals.now c.args.acks.now c.args.stored.now c.args.table.now c.args.out.now c.args.reps.now) _ c.read_quiet-s.ensures _ _ c.args.frame.now (sym c.is_usual.ensures ∙ c.if-not-is_usual.false) c.on_message-a.ensures.0)

pub returns : goal.returns
returns c = rw (c.messages.ensures, c.replies.ensures, c.offset.ensures) (message-ran c.args.state.now c.args.frame.now (lent c.args.log.now c.args.results.now c.args.totals.now c.args.acks.now c.args.stored.now c.args.table.now c.args.out.now c.args.reps.now) _ _ _ c.requires.0 c.read_quiet-s.ensures c.on_message-a.ensures.0 c.keep_onward.ensures, rw c.keep_onward.ensures.number c.on_message-a.ensures.1)
