-- What is done with a StartView, as number and values: refusal 7 has none; else the number is 0, with 1 where it is joined and 0 where it isn't new to us.
-- Assumes nothing.
use Rattle.std.specs.Prelude.{◌≡◌, not, List, [], ◌∷◌, ℕ, eqb, ltb}
use Rattle.numbers.specs.Words.{when◌then◌else◌, ◌and◌, ◌or◌}
use Rattle.numbers.specs.declared.View.{View}
use Rattle.numbers.specs.declared.Op.{Op}
use Rattle.frames.specs.Numbered.{Numbered, numbered}
use Rattle.book.specs.Log.{keeps_first}
use Rattle.state.specs.Statuses.{is_changing}
use Rattle.state.specs.declared.Replica.{Replica}
use Rattle.view_change.specs.StartView.{start_view_verdict}
use Rattle.view_change.specs.declared.StartViewVerdict.{StartViewVerdict}
use Rattle.view_change.specs.declared.StartViewVerdict.TheVariants.{Ignore, Refuse, Join}

abbrev pub start_view_number : StartViewVerdict → Numbered
start_view_number Ignore = numbered 0 (0 ∷ [])
start_view_number Refuse = numbered 7 []
start_view_number Join = numbered 0 (1 ∷ [])

-- By the rules. New is a later view, or ours while we change to it; 7 where the log of o entries would shorten or alter our committed ones.
unfoldable pub start_view_numbers : Replica → View → Op → (part log : List ℕ) → Numbered
start_view_numbers s v o part log =
    when not (ltb s.view.0 v.0 or (eqb v.0 s.view.0 and is_changing s.status)) then numbered 0 (0 ∷ []) else
    when not (keeps_first s.commit.0 log o.0 part) then numbered 7 [] else
    numbered 0 (1 ∷ [])

-- what `start_view::weigh` promises: the enum, and its number and values
pub record WeighsStartView (s : Replica) (v : View) (o : Op) (part log : List ℕ) (r : StartViewVerdict) : Type 0 where
  pub exact : r ≡ start_view_verdict s v o part log
  pub number : start_view_number r ≡ start_view_numbers s v o part log
