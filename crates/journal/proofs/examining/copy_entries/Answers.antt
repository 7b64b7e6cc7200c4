-- `journal::examining::copy_entries` meets its contract. Assumes nothing.
use mathlib.Core.Path.{refl, sym, ap, ◌∙◌}
use Prim.Native.Nat.{◌*◌}
use borrow.Author.Rules.{rules}
use lib.Seq.{drop-drop}
use Rattle.entries.specs.Entries.{entry_of}
use Rattle.journal.proofs.FrameLaws.{entries_none, entries-more}
use Rattle.journal.proofs.examining.copy_entries.Goals as goal

pub loop-j-init : goal.loop-j-init
loop-j-init c = record { long = refl; copied = entries_none c.args.file.now c.args.area.now }

pub loop-j-preserved : goal.loop-j-preserved
loop-j-preserved c =
    let l = c.loop-j in
    let file = c.args.file.now in
    let e = c.entry_at.ensures ∙ ap entry_of (sym (drop-drop 9 (50 * l.j) file)) in
    record {
      long = search rules;
      copied = entries-more file c.args.area.now l.j l.area c.entry_at.result l.invariant.copied e c.write_entry.ensures;
    }
