-- `journal::examining::examine_forms` meets its contract. Assumes nothing.
use mathlib.Core.Path.{◌≡◌}
use Prim.Native.Nat.{◌*◌, ◌≤◌}
use lib.ListN.{length, drop}
use Rattle.journal.proofs.BelowLaws.{Forms}
use Rattle.journal.proofs.examining.examine_forms.Given as goal

abbrev pub invariant-loop-i : goal.invariant-loop-i
invariant-loop-i l =
    let i = l.i-iterator.count in
    record {
      size : l.i-iterator.iter.size ≡ 50;
      rest : l.i-iterator.iter.rest.now ≡ drop (50 * i) l.file;
      few : i ≤ 4096;
      there : 50 * i ≤ length l.file;
      forms : Forms i l.file;
    }
