-- `whitherhaul::replicas::whitherhaul_on_message` meets its contract. Assumes nothing.
use mathlib.Core.Bool.{not}
use mathlib.Core.Path.{sym, ap, ◌∙◌}
use native.Mathlib.Omega.{arith}
use Rattle.frames.proofs.PointLaws.{other-points}
use Rattle.replica.specs.Lent.{lent}
use Rattle.state_bytes.proofs.QuietLaws.{looks-none, looks-ok, looks-quiet}
use Rattle.whitherhaul.proofs.ReplicaLaws.{no-message, may-is}
use Rattle.whitherhaul.proofs.replicas.whitherhaul_on_message.Goals as goal

pub returns-in_default : goal.returns-in_default
returns-in_default c = let a = c.args in (no-message a.state.now a.frame.now (lent a.log.now a.results.now a.totals.now a.acks.now a.stored.now a.table.now a.out.now a.reps.now) (looks-none _ c.look_over.ensures c.in_default.is), other-points a.frame.now 1 (λ e. omega (arith, e)))

pub kind_of-requires : goal.kind_of-requires
kind_of-requires c = omega (arith, (may-is _ c.args.frame.now c.may_be_usual.ensures (ap not c.if-not-may_be_usual.false)).0)

pub message_usual-requires : goal.message_usual-requires
message_usual-requires c = let l = c.look_over.ensures in (looks-ok _ l c.in-Some.is, looks-quiet _ l c.in-Some.is (sym c.is_quiet.ensures ∙ (may-is _ c.args.frame.now c.may_be_usual.ensures (ap not c.if-not-may_be_usual.false)).1))

pub message_usual-requires-in-2 : goal.message_usual-requires-in-2
message_usual-requires-in-2 c = let l = c.look_over.ensures in (looks-ok _ l c.in-Some.is, looks-quiet _ l c.in-Some.is (sym c.is_quiet.ensures ∙ (may-is _ c.args.frame.now c.may_be_usual.ensures (ap not c.if-not-may_be_usual.false)).1))

pub message_usual-requires-in-3 : goal.message_usual-requires-in-3
message_usual-requires-in-3 c = let l = c.look_over.ensures in (looks-ok _ l c.in-Some.is, looks-quiet _ l c.in-Some.is (sym c.is_quiet.ensures ∙ (may-is _ c.args.frame.now c.may_be_usual.ensures (ap not c.if-not-may_be_usual.false)).1))

pub message_usual-requires-in-4 : goal.message_usual-requires-in-4
message_usual-requires-in-4 c = let l = c.look_over.ensures in (looks-ok _ l c.in-Some.is, looks-quiet _ l c.in-Some.is (sym c.is_quiet.ensures ∙ (may-is _ c.args.frame.now c.may_be_usual.ensures (ap not c.if-not-may_be_usual.false)).1))

pub message_usual-requires-in-10 : goal.message_usual-requires-in-10
message_usual-requires-in-10 c = let l = c.look_over.ensures in (looks-ok _ l c.in-Some.is, looks-quiet _ l c.in-Some.is (sym c.is_quiet.ensures ∙ (may-is _ c.args.frame.now c.may_be_usual.ensures (ap not c.if-not-may_be_usual.false)).1))

pub message_whole-requires : goal.message_whole-requires
message_whole-requires c = looks-ok _ c.look_over.ensures c.in-Some.is

pub message_whole-requires-in_default-kind_of : goal.message_whole-requires-in_default-kind_of
message_whole-requires-in_default-kind_of c = looks-ok _ c.look_over.ensures c.in-Some.is
