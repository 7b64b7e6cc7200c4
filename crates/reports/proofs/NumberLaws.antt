-- The number and values of what a quorum leads to are those by the rules (judged-number, response-number), so that who answers the definition keeps the whole
-- promise (judges, judges-response). Assumes nothing.
use mathlib.Core.Path.{◌≡◌, refl, ap, ◌∙◌}
use mathlib.Core.Bool.{Bool, true, false, not}
use mathlib.Core.List.{List, []}
use Prim.Native.Nat.{ℕ}
use lib.Dec.{ltb, eqb}
use lib.ListN.{take}
use Rattle.numbers.specs.Words.{when◌then◌else◌, ◌and◌, ◌or◌}
use Rattle.numbers.specs.declared.Op.{Op}
use Rattle.config.specs.Replicas.{quorum_of}
use Rattle.frames.specs.Numbered.{Numbered, numbered}
use Rattle.book.specs.Log.{keeps_first}
use Rattle.state.specs.declared.Reports.{Reports}
use Rattle.reports.specs.Rows.{filled_in, greatest_in, latest_view_in, chosen_from}
use Rattle.reports.specs.Judge.{chosen_log, weighed, judged, primary_row, answered_by_primary, responded}
use Rattle.reports.specs.JudgedNumber.{best_values, judged_number, weigh_numbers, judge_numbers, response_numbers, Judges, JudgesResponse}
use Rattle.reports.specs.declared.Best.{Best}
use Rattle.reports.specs.declared.Judged.{Judged}
use Rattle.reports.specs.declared.Judged.TheVariants.{Wait, Refuse, Begin}

-- refusal 7 has two causes
refused-by : (b : Best) (g : Op) (past keeps : Bool)
    → judged_number (when past then Refuse else when keeps then Begin b g else Refuse) ≡ (when past or not keeps then numbered 7 [] else numbered 0 (best_values b g.0))
unfolding when◌then◌else◌ ◌or◌
refused-by b g true k = refl
refused-by b g false true = refl
refused-by b g false false = refl

-- what is waited for has one, or several
waited : (few : Bool) (j : Judged) (x : Numbered) → judged_number j ≡ x → judged_number (when few then Wait else j) ≡ (when few then numbered 0 [] else x)
unfolding when◌then◌else◌
waited true j x e = refl
waited false j x e = e

waited-more : (few old there full same : Bool) (j : Judged) (x : Numbered) → judged_number j ≡ x
    → judged_number (when few then Wait else when old then Wait else when not there then Wait else when not full then Wait else when same then j else Wait)
    ≡ (when few or old or not (there and full and same) then numbered 0 [] else x)
unfolding when◌then◌else◌ ◌or◌ ◌and◌
waited-more true old there full same j x e = refl
waited-more false true there full same j x e = refl
waited-more false false false full same j x e = refl
waited-more false false true false same j x e = refl
waited-more false false true true false j x e = refl
waited-more false false true true true j x e = e

module _ (id room c : ℕ) (ours stored fresh : List ℕ) where
  weighed-number : (b : Best) (g : Op) → judged_number (weighed b g id room c ours stored fresh) ≡ weigh_numbers b g.0 id room c ours stored fresh
  unfolding weighed weigh_numbers
  weighed-number b g =
      refused-by b g (ltb b.report.op.0 g.0) (keeps_first c ours b.report.op.0 (chosen_log b id room stored fresh))

  module _ (t : Reports) (n : ℕ) where
    pub judged-number : judged_number (judged t n id room c ours stored fresh) ≡ judge_numbers t n id room c ours stored fresh
    unfolding judged judge_numbers
    judged-number =
        waited (ltb (filled_in (take n t.rows)) (quorum_of n)) _ _
        (weighed-number (chosen_from 0 (take n t.rows)) (record { 0 = greatest_in (take n t.rows) }))

    pub response-number : (view : ℕ)
        → judged_number (responded t n id room view c ours stored fresh) ≡ response_numbers t n id room view c ours stored fresh
    unfolding responded answered_by_primary response_numbers
    response-number view =
        let v = latest_view_in (take n t.rows) in
        let b = primary_row t n v in
        waited-more (ltb (filled_in (take n t.rows)) (quorum_of n)) (ltb v view) b.report.there b.report.full (eqb b.report.view.0 v) _ _
        (weighed-number b b.report.commit)

    pub judges : (r : Judged) → r ≡ judged t n id room c ours stored fresh → Judges t n id room c ours stored fresh r
    judges r e = record { exact = e; number = ap judged_number e ∙ judged-number }

    pub judges-response : (view : ℕ) (r : Judged) → r ≡ responded t n id room view c ours stored fresh
        → JudgesResponse t n id room view c ours stored fresh r
    judges-response view r e = record { exact = e; number = ap judged_number e ∙ response-number view }
