-- `state_bytes::part::write_reports` meets its contract. Assumes nothing.
use mathlib.Core.Path.{◌≡◌}
use Prim.Native.Nat.{ℕ, ◌<◌}
use lib.ListN.{get_or, take}
use Rattle.numbers.specs.Numbers.{over}
use Rattle.numbers.specs.Cells.{packed}
use Rattle.state.specs.Statuses.{no_report}
use Rattle.state_bytes.specs.Layout.{encode_report, ReportFits}
use Rattle.state_bytes.proofs.part.write_reports.Given as goal

abbrev pub invariant-loop-i : goal.invariant-loop-i
invariant-loop-i l =
    (l.area ≡ over (packed encode_report (take l.i l.d-items)) l.initial.area) × ((j : ℕ) → j < l.i → ReportFits (get_or l.d-items j no_report))
