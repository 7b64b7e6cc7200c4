-- `replica::call::on_idle` meets its contract. Assumes nothing.
use mathlib.Core.Bool.{not}
use mathlib.Core.Path.{ap}
use mathlib.Core.Path.{sym, ◌∙◌}
use lib.ListN.{length}
use Rattle.outside.proofs.SoundLaws.{sound-is}
use Rattle.replica.proofs.CallLaws.{stays-follow, followed-is, idle-unsound, idle-done}
use Rattle.replica.proofs.PromiseLaws.{idle-promised}
use Rattle.handlers.proofs.Stays.{idle-stays}
use Rattle.book.specs.Memory.{memory}
use Rattle.replica.specs.Lent.{lent}
use Rattle.replica.proofs.call.on_idle.Goals as goal

pub returns-then-not-is_sound : goal.returns-then-not-is_sound
returns-then-not-is_sound c = let a = c.args in idle-promised a.s (lent a.log.now a.results.now a.totals.now a.acks.now a.stored.now a.table.now a.out.now a.reps.now) _ (idle-unsound a.s (lent a.log.now a.results.now a.totals.now a.acks.now a.stored.now a.table.now a.out.now a.reps.now) c.is_sound.result c.is_sound.ensures (ap not c.if-not-is_sound.true) c.refused.ensures)

pub on_idle-a-requires : goal.on_idle-a-requires
on_idle-a-requires c = let a = c.args in let w = sound-is a.s (memory a.log.now a.results.now a.totals.now a.acks.now a.stored.now a.out.now a.reps.now) (length a.table.now) (sym c.is_sound.ensures ∙ c.if-not-is_sound.false) in w.gathering

pub follow-requires : goal.follow-requires
follow-requires c = let a = c.args in let w = sound-is a.s (memory a.log.now a.results.now a.totals.now a.acks.now a.stored.now a.out.now a.reps.now) (length a.table.now) (sym c.is_sound.ensures ∙ c.if-not-is_sound.false) in stays-follow a.s _ c.on_idle-a.result _ _ w.gathering.sound.sized (idle-stays a.s (memory a.log.now a.results.now a.totals.now a.acks.now a.stored.now a.out.now a.reps.now) w.gathering) c.on_idle-a.ensures w.table-long

pub returns : goal.returns
returns c = let a = c.args in idle-promised a.s (lent a.log.now a.results.now a.totals.now a.acks.now a.stored.now a.table.now a.out.now a.reps.now) _ (idle-done a.s (lent a.log.now a.results.now a.totals.now a.acks.now a.stored.now a.table.now a.out.now a.reps.now) c.is_sound.result c.is_sound.ensures (ap not c.if-not-is_sound.false) (followed-is a.s _ c.on_idle-a.result _ a.table.now c.on_idle-a.ensures c.follow.ensures))
