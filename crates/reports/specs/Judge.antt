-- What a DoViewChange or a RecoveryResponse leads to, judged before anything is stored. The rows hold the new report, that of replica
-- `id`; its log lies in `fresh`, all others in `stored`; `ours` is our log, c our commit number. Assumes nothing.
use Rattle.std.specs.Prelude.{◌≡◌, Bool, true, not, List, ℕ, ◌+◌, ◌*◌, ◌≤◌, ◌<◌, ltb, eqb, length, get_or, take, drop}
use Rattle.numbers.specs.Words.{when◌then◌else◌}
use Rattle.numbers.specs.declared.Op.{Op}
use Rattle.config.specs.Setup.{primary_of}
use Rattle.config.specs.Replicas.{quorum_of}
use Rattle.book.specs.Log.{keeps_first}
use Rattle.state.specs.Statuses.{no_report}
use Rattle.state.specs.Lengths.{stored_place}
use Rattle.state.specs.declared.Reports.{Reports}
use Rattle.reports.specs.Rows.{filled_in, greatest_in, latest_view_in, chosen_from}
use Rattle.reports.specs.declared.Best.{Best}
use Rattle.reports.specs.declared.Judged.{Judged}
use Rattle.reports.specs.declared.Judged.TheVariants.{Wait, Refuse, Begin}

-- k bytes: the first of `fresh`, or those from a place of `stored` on
unfoldable pub log_from : (new : Bool) (at k : ℕ) (stored fresh : List ℕ) → List ℕ
log_from new at k stored fresh = when new then take k fresh else take k (drop at stored)

-- the log of a report: only the new one's isn't stored
unfoldable pub chosen_log : Best → (id room : ℕ) (stored fresh : List ℕ) → List ℕ
chosen_log b id room stored fresh = log_from (eqb b.id id) (stored_place room b.id) (32 * b.report.op.0) stored fresh

-- Refusal 7: the commit number g passes the log, or the install would shorten or alter our committed entries.
unfoldable pub weighed : Best → (g : Op) (id room c : ℕ) (ours stored fresh : List ℕ) → Judged
weighed b g id room c ours stored fresh =
    when ltb b.report.op.0 g.0 then Refuse else
    when keeps_first c ours b.report.op.0 (chosen_log b id room stored fresh) then Begin b g else
    Refuse

-- record_do_view_change, of n replicas: with a quorum the view begins with the chosen log and the greatest commit number
unfoldable pub judged : Reports → (n id room c : ℕ) (ours stored fresh : List ℕ) → Judged
judged t n id room c ours stored fresh =
    when ltb (filled_in (take n t.rows)) (quorum_of n) then Wait else
    weighed (chosen_from 0 (take n t.rows)) (record { 0 = greatest_in (take n t.rows) }) id room c ours stored fresh

-- the row of the primary of view v
abbrev pub primary_row : Reports → (n v : ℕ) → Best
primary_row t n v =
    record { id = primary_of n (record { 0 = v }); report = get_or t.rows (primary_of n (record { 0 = v })) no_report }

-- on_recovery_response, with the row of the primary of the latest view v: its state is taken where it answered_by_primary in that view
unfoldable pub answered_by_primary : Best → (v id room c : ℕ) (ours stored fresh : List ℕ) → Judged
answered_by_primary b v id room c ours stored fresh =
    when not b.report.there then Wait else
    when not b.report.full then Wait else
    when eqb b.report.view.0 v then weighed b b.report.commit id room c ours stored fresh else
    Wait

-- on_recovery_response, of n replicas, in our view: a quorum, whose latest view isn't below ours
unfoldable pub responded : Reports → (n id room view c : ℕ) (ours stored fresh : List ℕ) → Judged
responded t n id room view c ours stored fresh =
    when ltb (filled_in (take n t.rows)) (quorum_of n) then Wait else
    when ltb (latest_view_in (take n t.rows)) view then Wait else
    answered_by_primary (primary_row t n (latest_view_in (take n t.rows))) (latest_view_in (take n t.rows)) id room c ours stored fresh

-- the log of a report lies inside what is lent
pub record Lies (b : Best) (id room : ℕ) (stored fresh : List ℕ) : Type 0 where
  pub small : room ≤ 4096
  pub seven : b.id < 7
  pub long : b.report.op.0 ≤ room
  pub old : stored_place room b.id + 32 * b.report.op.0 ≤ length stored
  pub new : eqb b.id id ≡ true → 32 * b.report.op.0 ≤ length fresh

-- that of each report among n does
pub record Fits (t : Reports) (n id room : ℕ) (stored fresh : List ℕ) : Type 0 where
  pub few : n ≤ 7
  pub some : 0 < n
  pub small : room ≤ 4096
  pub held : stored_place room n ≤ length stored
  pub rows : (i : ℕ) → i < n → (get_or t.rows i no_report).there ≡ true → (get_or t.rows i no_report).op.0 ≤ room
  pub new : 32 * (get_or t.rows id no_report).op.0 ≤ length fresh
