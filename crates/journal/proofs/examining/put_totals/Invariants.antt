-- `journal::examining::put_totals` meets its contract. Assumes nothing.
use mathlib.Core.Path.{◌≡◌}
use Prim.Native.Nat.{◌*◌, ◌≤◌}
use lib.ListN.{length, drop}
use Rattle.numbers.specs.Numbers.{Bytes}
use Rattle.numbers.specs.Cells.{cells}
use Rattle.layout.specs.Layout.{total_of}
use Rattle.journal.specs.Steps.{totals_filed}
use Rattle.journal.proofs.examining.put_totals.Given as goal

-- the run has the totals after so many frames
abbrev pub invariant-loop-frame : goal.invariant-loop-frame
invariant-loop-frame l =
    let j = length l.yielded in
    record {
      size : l.frame-iterator.size ≡ 50;
      rest : l.frame-iterator.rest.now ≡ drop (50 * j) l.file;
      there : 50 * j ≤ length l.file;
      long : length l.totals ≡ 8 * l.members;
      bytes : Bytes l.totals;
      are : cells 8 total_of l.members l.totals ≡ totals_filed l.members j l.file;
    }
