-- The number and values of what is done with a StartView are those by the rules (start-view-number), so that who answers the definition keeps the whole promise
-- (weighs-start-view). Assumes nothing.
use mathlib.Core.Path.{◌≡◌, refl, ap, ◌∙◌}
use mathlib.Core.Bool.{Bool, true, false, not}
use mathlib.Core.List.{List, [], ◌∷◌}
use mathlib.Core.Logic.{⊎_elim}
use Prim.Native.Nat.{ℕ, ◌<◌}
use native.Mathlib.Omega.{arith}
use borrow.Author.Tests.{lt-ltb, le-ltb, eq-eqb, ne_eqb}
use Rattle.numbers.specs.Words.{when◌then◌else◌, ◌and◌, ◌or◌}
use Rattle.numbers.specs.declared.View.{View}
use Rattle.numbers.specs.declared.Op.{Op}
use Rattle.numbers.proofs.NumberLaws.{le-or-lt}
use Rattle.frames.specs.Numbered.{numbered}
use Rattle.book.specs.Log.{keeps_first}
use Rattle.state.specs.Statuses.{is_changing}
use Rattle.state.specs.declared.Replica.{Replica}
use Rattle.view_change.specs.StartView.{keep_verdict, start_view_verdict}
use Rattle.view_change.specs.StartViewNumber.{start_view_number, start_view_numbers, WeighsStartView}
use Rattle.view_change.specs.declared.StartViewVerdict.{StartViewVerdict}
use Rattle.view_change.specs.declared.StartViewVerdict.TheVariants.{Ignore, Refuse, Join}

-- a new one, by whether it keeps our committed entries
kept : (keeps : Bool) → start_view_number (when keeps then Join else Refuse) ≡ (when not keeps then numbered 7 [] else numbered 0 (1 ∷ []))
unfolding when◌then◌else◌
kept true = refl
kept false = refl

-- one of our view, by whether we are changing to it
ours : (changing keeps : Bool)
    → start_view_number (when not changing then Ignore else when keeps then Join else Refuse)
    ≡ (when not changing then numbered 0 (0 ∷ []) else when not keeps then numbered 7 [] else numbered 0 (1 ∷ []))
unfolding when◌then◌else◌
ours false k = refl
ours true k = kept k

module _ (s : Replica) (v : View) (o : Op) (part log : List ℕ) where
  abbrev Same : Type 0
  Same = start_view_number (start_view_verdict s v o part log) ≡ start_view_numbers s v o part log

  abbrev keeps : Bool
  keeps = keeps_first s.commit.0 log o.0 part

  earlier : v.0 < s.view.0 → Same
  unfolding start_view_verdict start_view_numbers when◌then◌else◌ ◌and◌ ◌or◌
  earlier h = rw (lt-ltb v.0 s.view.0 h, le-ltb s.view.0 v.0 (omega arith), ne_eqb v.0 s.view.0 (λ e. omega arith))

  later : s.view.0 < v.0 → Same
  unfolding start_view_verdict keep_verdict start_view_numbers when◌then◌else◌ ◌and◌ ◌or◌
  later h = rw (lt-ltb s.view.0 v.0 h, le-ltb v.0 s.view.0 (omega arith)) (kept keeps)

  now : v.0 ≡ s.view.0 → Same
  unfolding start_view_verdict keep_verdict start_view_numbers when◌then◌else◌ ◌and◌ ◌or◌
  now e =
      rw (eq-eqb v.0 s.view.0 e, le-ltb v.0 s.view.0 (omega arith), le-ltb s.view.0 v.0 (omega arith))
      (ours (is_changing s.status) keeps)

  pub start-view-number : Same
  start-view-number =
      ⊎_elim (λ h. ⊎_elim (λ g. now (omega arith)) later (le-or-lt v.0 s.view.0)) earlier (le-or-lt s.view.0 v.0)

  pub weighs-start-view : (r : StartViewVerdict) → r ≡ start_view_verdict s v o part log → WeighsStartView s v o part log r
  weighs-start-view r e = record { exact = e; number = ap start_view_number e ∙ start-view-number }
