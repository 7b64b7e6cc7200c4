-- `journal::writing::copy_frames` meets its contract. Assumes nothing.
use mathlib.Core.Path.{refl}
use borrow.Author.Rules.{rules}
use Rattle.journal.proofs.FrameLaws.{copied_none, copied_more}
use Rattle.journal.proofs.writing.copy_frames.Goals as goal

pub loop-j-init : goal.loop-j-init
loop-j-init c =
    let a = c.args in
    record { long = refl; copied = copied_none a.from a.log.now a.results.now a.area.now }

pub loop-j-preserved : goal.loop-j-preserved
loop-j-preserved c =
    let l = c.loop-j in
    let a = c.args in
    let e = c.entry_in-e in
    let o = c.result_in-o in
    let m = copied_more a.from a.log.now a.results.now a.area.now l.j l.area e.result o.result in
    record { long = search rules; copied = m l.invariant.copied e.ensures o.ensures c.write_frame.ensures }
