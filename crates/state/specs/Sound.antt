-- Refusal 1 on what a view change or a recovery gathers: the set of those who asked for the view, and a row for each replica id. Only the n replicas of the
-- cluster are in it: a row without a report, and the row of an id that isn't below n, is all zero, and no bit from n on is set. Assumes nothing.
use Rattle.std.specs.Prelude.{Bool, true, false, not, List, [], ◌∷◌, ℕ, zero, suc, ◌^◌, eqb, leb, ltb, get_or}
use Rattle.numbers.specs.Words.{when◌then◌else◌}
use Rattle.config.specs.declared.Setup.{Setup}
use Rattle.state.specs.Statuses.{no_report}
use Rattle.state.specs.declared.Report.{Report}

-- a row without a report has nothing in it
unfoldable pub is_none : Report → Bool
is_none d =
    when d.there then false else
    when d.full then false else
    when not (eqb d.view.0 0) then false else
    when not (eqb d.op.0 0) then false else
    eqb d.commit.0 0

-- refusal 1 on a row: of a report that is there the log fits its place, and no more is committed than it has
unfoldable pub report_ok : (room : ℕ) → Report → Bool
report_ok room d =
    when not d.there then is_none d else
    when leb d.op.0 room then leb d.commit.0 d.op.0 else
    false

-- refusal 1 on rows, of which the first n are those of replicas
unfoldable pub reports_ok : (room n : ℕ) → List Report → Bool
reports_ok room n [] = true
reports_ok room zero (d ∷ ds) = when is_none d then reports_ok room zero ds else false
reports_ok room (suc n) (d ∷ ds) = when report_ok room d then reports_ok room n ds else false

-- the same on row i
unfoldable pub row_ok : (room n i : ℕ) → List Report → Bool
row_ok room n i ds = when leb n i then is_none (get_or ds i no_report) else report_ok room (get_or ds i no_report)

-- refusal 1 on all that is gathered
unfoldable pub gathered_ok : Setup → (starts : ℕ) → List Report → Bool
gathered_ok u starts rows = when ltb starts (2 ^ u.n) then reports_ok u.room u.n rows else false
