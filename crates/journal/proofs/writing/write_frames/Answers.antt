-- `journal::writing::write_frames` meets its contract. Assumes nothing.
use Prim.Native.Nat.{◌+◌}
use native.Mathlib.Omega.{arith}
use Rattle.entries.specs.Entries.{run_count}
use Rattle.journal.proofs.WrittenLaws.{below-begins, below_more, all-written}
use Rattle.journal.proofs.writing.write_frames.Goals as goal

pub loop-low-init : goal.loop-low-init
loop-low-init c =
    below-begins c.args.members (run_count c.args.run.now) c.args.run.now c.args.area.now c.requires.some

pub loop-low-preserved : goal.loop-low-preserved
loop-low-preserved c =
    let l = c.loop-low in
    let a = c.args in
    below_more a.members (run_count a.run.now) a.run.now a.area.now l.low l.area _ l.invariant c.write_group.ensures

pub returns : goal.returns
returns c =
    let l = c.loop-low in
    let a = c.args in
    all-written a.members (run_count a.run.now) a.run.now a.area.now l.low l.area c.loop-low-test.false l.invariant

pub returns-2 : goal.returns-2
returns-2 c =
    let l = c.loop-low in
    let a = c.args in
    let b = below_more a.members (run_count a.run.now) a.run.now a.area.now l.low l.area _ l.invariant c.write_group.ensures in
    all-written a.members (run_count a.run.now) a.run.now a.area.now (l.low + 64) c.write_group.new.area (omega arith) b
