-- The number and values of accept_from_primary are those by the rules (accept-number), so that who answers the definition keeps the whole promise (accepts).
-- Assumes nothing.
use mathlib.Core.Path.{◌≡◌, refl, ap, ◌∙◌}
use mathlib.Core.Bool.{Bool, true, false, not}
use mathlib.Core.List.{[], ◌∷◌}
use mathlib.Core.Logic.{⊎_elim}
use Prim.Native.Nat.{◌<◌}
use native.Mathlib.Omega.{arith}
use borrow.Author.Tests.{lt-ltb, le-ltb, eq-eqb, ne_eqb}
use Rattle.numbers.specs.Words.{when◌then◌else◌, ◌and◌, ◌or◌}
use Rattle.numbers.specs.declared.View.{View}
use Rattle.numbers.proofs.NumberLaws.{le-or-lt}
use Rattle.frames.specs.Numbered.{numbered}
use Rattle.frames.specs.declared.Status.{Status}
use Rattle.frames.specs.declared.Status.TheVariants.{Normal, StateTransfer, ViewChange, Recovering}
use Rattle.state.specs.State.{leads}
use Rattle.state.specs.Statuses.{is_normal, is_changing}
use Rattle.state.specs.declared.Replica.{Replica}
use Rattle.steps.specs.Steps.{accept_changing, accept_of}
use Rattle.steps.specs.AcceptNumber.{accept_number, accept_numbers, Accepts}
use Rattle.steps.specs.declared.Accept.{Accept}
use Rattle.steps.specs.declared.Accept.TheVariants.{Hear, Rejoin, Take}

-- in our view: by the status, whether we are catching up, and whether we lead
ours : (t : Status) (catching leads : Bool)
    → accept_number (when is_changing t then (when catching then Hear else Rejoin) else when not (is_normal t) then Hear else when leads then Hear else Take)
    ≡ numbered 0 (1 ∷ (when is_changing t and not catching then 1 else 0) ∷ (when is_normal t and not leads then 1 else 0) ∷ [])
unfolding is_changing is_normal when◌then◌else◌ ◌and◌
ours Normal c true = refl
ours Normal c false = refl
ours StateTransfer c l = refl
ours ViewChange true l = refl
ours ViewChange false l = refl
ours Recovering c l = refl

module _ (s : Replica) (v : View) where
  abbrev Same : Type 0
  Same = accept_number (accept_of s v) ≡ accept_numbers s v

  earlier : v.0 < s.view.0 → Same
  unfolding accept_of accept_numbers when◌then◌else◌ ◌and◌ ◌or◌
  earlier h = rw (lt-ltb v.0 s.view.0 h, le-ltb s.view.0 v.0 (omega arith), ne_eqb v.0 s.view.0 (λ e. omega arith))

  later : s.view.0 < v.0 → Same
  unfolding accept_of accept_numbers when◌then◌else◌ ◌and◌ ◌or◌
  later h = rw (lt-ltb s.view.0 v.0 h, le-ltb v.0 s.view.0 (omega arith), ne_eqb v.0 s.view.0 (λ e. omega arith))

  now : v.0 ≡ s.view.0 → Same
  unfolding accept_of accept_changing accept_numbers when◌then◌else◌ ◌and◌ ◌or◌
  now e =
      rw (eq-eqb v.0 s.view.0 e, le-ltb v.0 s.view.0 (omega arith), le-ltb s.view.0 v.0 (omega arith))
      (ours s.status s.catching (leads s))

  pub accept-number : Same
  accept-number =
      ⊎_elim (λ h. ⊎_elim (λ g. now (omega arith)) later (le-or-lt v.0 s.view.0)) earlier (le-or-lt s.view.0 v.0)

  pub accepts : (r : Accept) → r ≡ accept_of s v → Accepts s v r
  accepts r e = record { exact = e; number = ap accept_number e ∙ accept-number }
