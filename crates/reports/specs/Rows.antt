-- Reports of replicas, a row for each id: what is counted, chosen and greatest among the first n. A row that isn't there is passed over;
-- rows from n on are never read. Assumes nothing.
use Rattle.std.specs.Prelude.{not, List, [], ◌∷◌, ℕ, suc, ◌+◌, ltb, set}
use Rattle.numbers.specs.Words.{when◌then◌else◌}
use Rattle.state.specs.Statuses.{no_report}
use Rattle.state.specs.declared.Report.{Report}
use Rattle.state.specs.declared.Reports.{Reports}
use Rattle.reports.specs.declared.Best.{Best}

-- do_view_change_from.insert, recovery_responses.insert
abbrev pub with_report : Reports → (id : ℕ) → Report → Reports
with_report t i d = record { rows = set t.rows i d }

-- no choice: what is chosen of no report
abbrev pub no_best : Best
no_best = record { id = 0; report = no_report }

-- one report more
unfoldable pub count_one : Report → ℕ → ℕ
count_one d k = when d.there then k + 1 else k

-- one commit number more
unfoldable pub greater_commit : Report → ℕ → ℕ
greater_commit d g =
    when not d.there then g else
    when ltb g d.commit.0 then d.commit.0 else
    g

-- one view more
unfoldable pub later_view : Report → ℕ → ℕ
later_view d v =
    when not d.there then v else
    when ltb v d.view.0 then d.view.0 else
    v

-- Document 01, the chosen log: "greatest (last normal view, length); on a tie the highest replica id". The report of id i, against the
-- best of those with higher ids, as the Rust's `max_by_key` keeps the last of equals.
unfoldable pub better_of : Report → (id : ℕ) → Best → Best
better_of d i b =
    when not d.there then b else
    when not b.report.there then record { id = i; report = d } else
    when ltb b.report.view.0 d.view.0 then record { id = i; report = d } else
    when ltb d.view.0 b.report.view.0 then b else
    when ltb b.report.op.0 d.op.0 then record { id = i; report = d } else
    b

-- how many are there: the `len` of the Rust's map
unfoldable pub filled_in : List Report → ℕ
filled_in [] = 0
filled_in (d ∷ ds) = count_one d (filled_in ds)

-- Document 01: "The commit number is the greatest among all, not the chosen one's."
unfoldable pub greatest_in : List Report → ℕ
greatest_in [] = 0
greatest_in (d ∷ ds) = greater_commit d (greatest_in ds)

-- the latest view
unfoldable pub latest_view_in : List Report → ℕ
latest_view_in [] = 0
latest_view_in (d ∷ ds) = later_view d (latest_view_in ds)

-- the chosen report, the first row being that of id i
unfoldable pub chosen_from : (id : ℕ) → List Report → Best
chosen_from i [] = no_best
chosen_from i (d ∷ ds) = better_of d i (chosen_from (suc i) ds)
