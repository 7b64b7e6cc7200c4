-- What a report leads to, as number and values: refusals 7, 9 and 10 have none; the number is 0 where it is kept, without values, and where the view begins, with
-- those of the report to begin with. Assumes nothing.
use Rattle.std.specs.Prelude.{◌≡◌, Bool, not, List, [], ℕ, ◌+◌, ◌*◌, ltb, take}
use Rattle.numbers.specs.Words.{when◌then◌else◌, ◌or◌}
use Rattle.config.specs.Replicas.{quorum_of}
use Rattle.frames.specs.Numbered.{Numbered, numbered}
use Rattle.book.specs.Log.{keeps_first}
use Rattle.state.specs.declared.Replica.{Replica}
use Rattle.state.specs.declared.Reports.{Reports}
use Rattle.reports.specs.Rows.{filled_in, greatest_in, chosen_from}
use Rattle.reports.specs.Judge.{chosen_log}
use Rattle.reports.specs.JudgedNumber.{best_values}
use Rattle.do_view_change.specs.Begin.{first_length, start_views_length, entered, owed}
use Rattle.do_view_change.specs.Record.{decided}
use Rattle.do_view_change.specs.declared.Decision.{Decision}
use Rattle.do_view_change.specs.declared.Decision.TheVariants.{Keep, No, Start}
use Rattle.frames.specs.Refusals.{number_of}

abbrev pub decision_number : Decision → Numbered
decision_number Keep = numbered 0 []
decision_number (No k) = numbered (number_of k) []
decision_number (Start b g) = numbered 0 (best_values b g.0)

-- By the rules, over areas of a and b bytes, of the report of replica r, which is among the rows. Below a quorum only what goes out first must fit, else 9. With one:
-- 7 where the greatest commit number passes the chosen log, or that would shorten or alter our committed entries; then 9; then 10.
unfoldable pub decide_numbers : (t : Replica) (rows : Reports) (r : ℕ) (first : Bool) (a b : ℕ) (ours stored fresh : List ℕ) → Numbered
decide_numbers t rows r first a b ours stored fresh =
    let held = take t.setup.n rows.rows in
    let best = chosen_from 0 held in
    let g = greatest_in held in
    when ltb (filled_in held) (quorum_of t.setup.n) then (when ltb a (first_length first t) then numbered 9 [] else numbered 0 []) else
    when ltb best.report.op.0 g or not (keeps_first t.commit.0 ours best.report.op.0 (chosen_log best r t.setup.room stored fresh)) then numbered 7 [] else
    when ltb a (first_length first t + start_views_length (entered t best.report.op)) then numbered 9 [] else
    when ltb b (36 * owed t (record { 0 = g })) then numbered 10 [] else
    numbered 0 (best_values best g)

-- what `decide` promises: the enum, and its number and values
pub record Decides (t : Replica) (rows : Reports) (r : ℕ) (first : Bool) (a b : ℕ) (ours stored fresh : List ℕ) (d : Decision) : Type 0 where
  pub exact : d ≡ decided t rows r first a b ours stored fresh
  pub number : decision_number d ≡ decide_numbers t rows r first a b ours stored fresh
