-- The number and values of what a report leads to are those by the rules (decision-number), so that who answers the definition keeps the whole promise (keeps-decision).
-- Assumes nothing.
use mathlib.Core.Path.{◌≡◌, refl, ap, ◌∙◌}
use mathlib.Core.Bool.{Bool, true, false, not}
use mathlib.Core.List.{List, []}
use Prim.Native.Nat.{ℕ, ◌+◌, ◌*◌}
use lib.Dec.{ltb}
use lib.ListN.{take}
use Rattle.numbers.specs.Words.{when◌then◌else◌, ◌or◌}
use Rattle.numbers.specs.declared.Op.{Op}
use Rattle.config.specs.Replicas.{quorum_of}
use Rattle.frames.specs.Numbered.{numbered}
use Rattle.book.specs.Log.{keeps_first}
use Rattle.state.specs.declared.Replica.{Replica}
use Rattle.state.specs.declared.Reports.{Reports}
use Rattle.reports.specs.Rows.{filled_in, greatest_in, chosen_from}
use Rattle.reports.specs.Judge.{chosen_log, weighed, judged}
use Rattle.reports.specs.JudgedNumber.{best_values}
use Rattle.reports.specs.declared.Best.{Best}
use Rattle.reports.specs.declared.Judged.TheVariants.{Wait, Refuse, Begin}
use Rattle.do_view_change.specs.Begin.{first_length, start_views_length, entered, owed}
use Rattle.do_view_change.specs.Record.{decided_by, decided}
use Rattle.do_view_change.specs.DecisionNumber.{decision_number, decide_numbers, Decides}
use Rattle.do_view_change.specs.declared.Decision.{Decision}
use Rattle.do_view_change.specs.declared.Decision.TheVariants.{Keep, No, Start}
use Rattle.frames.specs.declared.Refusal.TheVariants.{NoRoomForMessages, NoRoomForReplies}

-- below a quorum
waits : (short : Bool) → decision_number (when short then No NoRoomForMessages else Keep) ≡ (when short then numbered 9 [] else numbered 0 [])
unfolding when◌then◌else◌
waits true = refl
waits false = refl

-- with a log to begin with
begins : (best : Best) (g : Op) (short owes : Bool)
    → decision_number (when short then No NoRoomForMessages else when owes then No NoRoomForReplies else Start best g)
    ≡ (when short then numbered 9 [] else when owes then numbered 10 [] else numbered 0 (best_values best g.0))
unfolding when◌then◌else◌
begins best g true o = refl
begins best g false true = refl
begins best g false false = refl

module _ (t : Replica) (first : Bool) (a b : ℕ) where
  by_tests : (best : Best) (g : Op) (few past keeps : Bool)
      → decision_number (decided_by (when few then Wait else when past then Refuse else when keeps then Begin best g else Refuse) t first a b)
      ≡ (when few then (when ltb a (first_length first t) then numbered 9 [] else numbered 0 []) else
      when past or not keeps then numbered 7 [] else
      when ltb a (first_length first t + start_views_length (entered t best.report.op)) then numbered 9 [] else
      when ltb b (36 * owed t g) then numbered 10 [] else
      numbered 0 (best_values best g.0))
  unfolding decided_by when◌then◌else◌ ◌or◌
  by_tests best g true past keeps = waits (ltb a (first_length first t))
  by_tests best g false true keeps = refl
  by_tests best g false false false = refl
  by_tests best g false false true =
      begins best g (ltb a (first_length first t + start_views_length (entered t best.report.op))) (ltb b (36 * owed t g))

  module _ (rows : Reports) (r : ℕ) (ours stored fresh : List ℕ) where
    pub decision-number : decision_number (decided t rows r first a b ours stored fresh) ≡ decide_numbers t rows r first a b ours stored fresh
    unfolding decided judged weighed decide_numbers
    decision-number =
        let held = take t.setup.n rows.rows in
        let best = chosen_from 0 held in
        by_tests best (record { 0 = greatest_in held }) (ltb (filled_in held) (quorum_of t.setup.n)) (ltb best.report.op.0 (greatest_in held))
        (keeps_first t.commit.0 ours best.report.op.0 (chosen_log best r t.setup.room stored fresh))

    pub keeps-decision : (d : Decision) → d ≡ decided t rows r first a b ours stored fresh → Decides t rows r first a b ours stored fresh d
    keeps-decision d e = record { exact = e; number = ap decision_number e ∙ decision-number }
