-- `entries::entries_ok` meets its contract. Assumes nothing.
use mathlib.Core.Path.{◌≡◌}
use Prim.Native.Nat.{◌+◌, ◌-◌, ◌*◌}
use lib.ListN.{drop}
use Rattle.entries.specs.Entries.{entries_ok}
use Rattle.entries.proofs.entries_ok.Given as goal

-- the whole answer is that of what is left
abbrev pub invariant-loop-i : goal.invariant-loop-i
invariant-loop-i l = entries_ok l.k (drop l.at l.s) ≡ entries_ok (l.k - l.i) (drop (l.at + 32 * l.i) l.s)
