-- `state_bytes::part::reports_ok` meets its contract. Assumes nothing.
use mathlib.Core.Path.{◌≡◌}
use Prim.Native.Nat.{◌+◌, ◌-◌, ◌*◌}
use lib.ListN.{drop}
use Rattle.state_bytes.specs.Layout.{all_reports_ok}
use Rattle.state_bytes.proofs.part.reports_ok.Given as goal

abbrev pub invariant-loop-i : goal.invariant-loop-i
invariant-loop-i l = all_reports_ok 7 (drop l.at l.run) ≡ all_reports_ok (7 - l.i) (drop (l.at + 14 * l.i) l.run)
