-- The number and values of what a NewState is used for are those by the rules (use-number), so that who answers the definition keeps the whole promise (uses).
-- Assumes nothing.
use mathlib.Core.Path.{◌≡◌, refl, ap, ◌∙◌}
use mathlib.Core.Bool.{Bool, true, false, not}
use mathlib.Core.List.{[], ◌∷◌}
use Prim.Native.Nat.{ℕ}
use lib.Dec.{eqb, ltb, leb}
use borrow.Author.Tests.{ltb-true, ltb-false, leb-true, leb-false, le-leb, lt-leb, lt-ltb, le-ltb}
use Rattle.numbers.specs.Words.{when◌then◌else◌, ◌and◌}
use Rattle.numbers.specs.declared.View.{View}
use Rattle.frames.specs.Numbered.{numbered}
use Rattle.frames.specs.declared.Status.{Status}
use Rattle.frames.specs.declared.Status.TheVariants.{Normal, StateTransfer, ViewChange, Recovering}
use Rattle.state.specs.Statuses.{is_transfer, is_changing}
use Rattle.state.specs.declared.Replica.{Replica}
use Rattle.transfer.specs.NewState.{transfer_use, change_use, use_of}
use Rattle.transfer.specs.UseNumber.{use_number, use_numbers, Uses}
use Rattle.transfer.specs.declared.Part.{Part}
use Rattle.transfer.specs.declared.Use.{Use}
use Rattle.transfer.specs.declared.Use.TheVariants.{Ignore, Hear, Fill, Install}

-- one test is the other's contrary
not-below : (a b : ℕ) → leb a b ≡ not (ltb b a)
not-below a b = go (ltb b a) refl
  where
    go : (d : Bool) → ltb b a ≡ d → leb a b ≡ not d
    go true e = lt-leb a b (ltb-true b a e)
    go false e = le-leb a b (ltb-false b a e)

not-upto : (a b : ℕ) → ltb a b ≡ not (leb b a)
not-upto a b = go (leb b a) refl
  where
    go : (d : Bool) → leb b a ≡ d → ltb a b ≡ not d
    go true e = le-ltb a b (leb-true b a e)
    go false e = lt-ltb a b (leb-false b a e)

-- by whether it is of our view, the status, whether it starts past our log, ends within it, we are catching up, and it starts at our commit number
by_tests : (ours : Bool) (t : Status) (past within catching at : Bool)
    → use_number
    (when not ours then Ignore else
    when is_transfer t then (when past then Hear else when within then Hear else Fill) else
    when is_changing t then (when not catching then Hear else when not at then Hear else Install) else
    Hear)
    ≡ numbered 0
    ((when ours then 1 else 0) ∷ (when ours and is_transfer t and not past and not within then 1 else 0) ∷ (when ours and is_changing t and catching and at then 1 else 0) ∷ [])
unfolding is_transfer is_changing when◌then◌else◌ ◌and◌
by_tests false t p w c a = refl
by_tests true Normal p w c a = refl
by_tests true StateTransfer true w c a = refl
by_tests true StateTransfer false true c a = refl
by_tests true StateTransfer false false c a = refl
by_tests true ViewChange p w false a = refl
by_tests true ViewChange p w true false = refl
by_tests true ViewChange p w true true = refl
by_tests true Recovering p w c a = refl

module _ (s : Replica) (v : View) (p : Part) where
  pub use-number : use_number (use_of s v p) ≡ use_numbers s v p
  unfolding use_of transfer_use change_use use_numbers
  use-number =
      rw (not-below p.start.0 s.op.0, not-upto s.op.0 p.end.0)
      (by_tests (eqb v.0 s.view.0) s.status (ltb s.op.0 p.start.0) (leb p.end.0 s.op.0) s.catching (eqb p.start.0 s.commit.0))

  pub uses : (r : Use) → r ≡ use_of s v p → Uses s v p r
  uses r e = record { exact = e; number = ap use_number e ∙ use-number }
