-- `replica_structs::kernel::on_idle` meets its contract. Assumes nothing.
use mathlib.Core.Path.{sym, ◌∙◌}
use Rattle.book.specs.Memory.{memory}
use Rattle.replica_structs.proofs.CoreLaws.{sound-counted, gathered, idle-unsound, idle-done}
use Rattle.replica_structs.proofs.kernel.on_idle.Goals as goal

pub returns-then-not-is_sound : goal.returns-then-not-is_sound
returns-then-not-is_sound c =
    let a = c.args in
    let m = memory a.log.now a.results.now a.totals.now a.acks.now a.stored.now a.out.now a.reps.now in
    idle-unsound a.s a.rows m c.is_sound.result (c.is_sound.ensures ∙ sound-counted m a.rows c.in_bytes.ensures a.s) c.if-not-is_sound.true c.refused.ensures

pub on_idle-requires : goal.on_idle-requires
on_idle-requires c =
    let a = c.args in
    let m = memory a.log.now a.results.now a.totals.now a.acks.now a.stored.now a.out.now a.reps.now in
    gathered a.s m a.rows (sym (c.is_sound.ensures ∙ sound-counted m a.rows c.in_bytes.ensures a.s) ∙ c.if-not-is_sound.false)

pub returns : goal.returns
returns c =
    let a = c.args in
    let m = memory a.log.now a.results.now a.totals.now a.acks.now a.stored.now a.out.now a.reps.now in
    idle-done a.s a.rows m c.is_sound.result (c.is_sound.ensures ∙ sound-counted m a.rows c.in_bytes.ensures a.s) c.if-not-is_sound.false c.on_idle.ensures
