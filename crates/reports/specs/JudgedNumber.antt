-- What a report that just came in leads to, as number and values: refusal 7 has none; the number is 0 where more are waited for, without values, and where a log is
-- installed, with whose it is, its last normal view, its op and commit number, and the commit number to go up to. Assumes nothing.
use Rattle.std.specs.Prelude.{◌≡◌, Bool, not, List, [], ◌∷◌, ℕ, ltb, eqb, take}
use Rattle.numbers.specs.Words.{when◌then◌else◌, ◌and◌, ◌or◌}
use Rattle.config.specs.Replicas.{quorum_of}
use Rattle.frames.specs.Numbered.{Numbered, numbered}
use Rattle.book.specs.Log.{keeps_first}
use Rattle.state.specs.declared.Reports.{Reports}
use Rattle.reports.specs.Rows.{filled_in, greatest_in, latest_view_in, chosen_from}
use Rattle.reports.specs.Judge.{chosen_log, judged, primary_row, responded}
use Rattle.reports.specs.declared.Best.{Best}
use Rattle.reports.specs.declared.Judged.{Judged}
use Rattle.reports.specs.declared.Judged.TheVariants.{Wait, Refuse, Begin}

-- a report to begin with, and the commit number g to go up to
abbrev pub best_values : Best → (g : ℕ) → List ℕ
best_values b g = b.id ∷ b.report.view.0 ∷ b.report.op.0 ∷ b.report.commit.0 ∷ g ∷ []

abbrev pub judged_number : Judged → Numbered
judged_number Wait = numbered 0 []
judged_number Refuse = numbered 7 []
judged_number (Begin b g) = numbered 0 (best_values b g.0)

-- ---- by the rules

-- 7: the commit number g passes the log, or the install would shorten or alter our committed entries
unfoldable pub weigh_numbers : Best → (g id room c : ℕ) (ours stored fresh : List ℕ) → Numbered
weigh_numbers b g id room c ours stored fresh =
    when ltb b.report.op.0 g or not (keeps_first c ours b.report.op.0 (chosen_log b id room stored fresh)) then numbered 7 [] else
    numbered 0 (best_values b g)

-- DoViewChanges of n replicas: with a quorum, the chosen log and the greatest commit number
unfoldable pub judge_numbers : Reports → (n id room c : ℕ) (ours stored fresh : List ℕ) → Numbered
judge_numbers t n id room c ours stored fresh =
    when ltb (filled_in (take n t.rows)) (quorum_of n) then numbered 0 [] else
    weigh_numbers (chosen_from 0 (take n t.rows)) (greatest_in (take n t.rows)) id room c ours stored fresh

-- the row is a response with a log, in view v
abbrev pub full_in : Best → (v : ℕ) → Bool
full_in b v = b.report.there and b.report.full and eqb b.report.view.0 v

-- RecoveryResponses of n replicas, in our view: with a quorum whose latest view isn't below ours, the log of that view's primary, if it answered in that view
unfoldable pub response_numbers : Reports → (n id room view c : ℕ) (ours stored fresh : List ℕ) → Numbered
response_numbers t n id room view c ours stored fresh =
    let v = latest_view_in (take n t.rows) in
    let b = primary_row t n v in
    when ltb (filled_in (take n t.rows)) (quorum_of n) or ltb v view or not (full_in b v) then numbered 0 [] else
    weigh_numbers b b.report.commit.0 id room c ours stored fresh

-- ---- what `judge` and `judge_response` promise: the enum, and its number and values

pub record Judges (t : Reports) (n id room c : ℕ) (ours stored fresh : List ℕ) (r : Judged) : Type 0 where
  pub exact : r ≡ judged t n id room c ours stored fresh
  pub number : judged_number r ≡ judge_numbers t n id room c ours stored fresh

pub record JudgesResponse (t : Reports) (n id room view c : ℕ) (ours stored fresh : List ℕ) (r : Judged) : Type 0 where
  pub exact : r ≡ responded t n id room view c ours stored fresh
  pub number : judged_number r ≡ response_numbers t n id room view c ours stored fresh
