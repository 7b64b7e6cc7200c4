-- `journal::writing::write_group` meets its contract. Assumes nothing.
use mathlib.Core.Path.{sym, ap, ◌∙◌, subst}
use Prim.Native.Nat.{◌+◌, ◌*◌, ◌≤◌}
use native.Mathlib.Omega.{arith}
use lib.ListN.{length}
use Rattle.numbers.proofs.RunLaws.{put-part}
use Rattle.entries.specs.Entries.{entry_of}
use Rattle.entries.specs.declared.Entry.{Entry}
use Rattle.journal.specs.Journal.{journal_frame}
use Rattle.journal.specs.Steps.{in_group, totals_of_run, WritesGroup}
use Rattle.journal.proofs.FrameLaws.{frame-length}
use Rattle.journal.proofs.GroupLaws.{Grouped, grouped-none, grouped-more, grouped-other}
use Rattle.journal.proofs.WrittenLaws.{group-begins, group-frame, group-framed, other-frame}
use Rattle.journal.proofs.writing.write_group.Goals as goal
use Rattle.journal.proofs.writing.write_group.Goals.{then-has, else-has}

pub loop-k-init : goal.loop-k-init
loop-k-init c =
    let a = c.args in
    record {
      grouped = grouped-none a.group.members a.group.low 32 entry_of a.run.now (omega arith);
      written = group-begins a.group.members a.group.low a.run.now a.area.now;
    }

pub loop-k-preserved : goal.loop-k-preserved
loop-k-preserved c =
    let e = c.entry_at-e in
    let l = c.loop-k in
    let v = l.invariant in
    let a = c.args in
    let M = a.group.members in
    let run = a.run.now in
    elim c.if-has.branch [
      | then-has w ↦
          let o = w.apply-o in
          let y = sym c.has.ensures ∙ w.if-has.true in
          let frame = journal_frame (l.k + 1) e.result o.result in
          let fifty = frame-length (l.k + 1) e.result o.result in
          let room : 50 * (l.k + 1) ≤ length l.area = omega (arith, v.written.long, c.requires.room) in
          let f = group-frame M a.group.low run a.area.now l.k l.area v.written frame fifty room (ap (λ (x : Entry). in_group M a.group.low x.member) (sym e.ensures) ∙ y)
          (group-framed M a.group.low l.k run l.totals v.grouped e.result e.ensures y o.result o.ensures.outcome) in
          record {
            grouped = grouped-more M a.group.low 32 entry_of run l.k l.totals v.grouped e.result e.ensures y c.if-has.totals (w.totals-is ∙ o.ensures.totals) (ap length w.totals-is ∙ o.auto.totals);
            written = subst (WritesGroup M a.group.low (l.k + 1) run a.area.now) (sym (w.area-is ∙ put-part l.area frame (50 * l.k) w.write_frame.ensures)) f;
          }
      | else-has w ↦
          let o = sym c.has.ensures ∙ w.if-has.false in
          let f = other-frame M a.group.low run a.area.now l.k l.area v.written (ap (λ (x : Entry). in_group M a.group.low x.member) (sym e.ensures) ∙ o) in
          record {
            grouped = subst (Grouped M a.group.low (totals_of_run M (l.k + 1) run)) (sym w.totals-is) (grouped-other M a.group.low 32 entry_of run l.k l.totals v.grouped e.result e.ensures o);
            written = subst (WritesGroup M a.group.low (l.k + 1) run a.area.now) (sym w.area-is) f;
          }
    ]
