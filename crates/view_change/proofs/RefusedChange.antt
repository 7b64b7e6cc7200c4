-- A refused StartView leaves the state and every lent byte as they were; so does the refused start of a view change. Assumes nothing.
use Prim.Native.Nat.{ℕ}
use mathlib.Core.Path.{refl}
use mathlib.Core.Bool.{true}
use mathlib.Core.List.{List}
use Rattle.numbers.specs.declared.View.{View}
use Rattle.numbers.specs.declared.Op.{Op}
use Rattle.numbers.proofs.WordLaws.{split}
use Rattle.state.specs.declared.Replica.{Replica}
use Rattle.book.specs.Memory.{Memory}
use Rattle.view_change.specs.StartViewChange.{started_change}
use Rattle.view_change.specs.StartView.{sent_start_view, Joined, joined_by, start_view_step, of_joined}
use Rattle.view_change.specs.StartView as StartView
use Rattle.view_change.specs.declared.StartViewVerdict.{StartViewVerdict}
use Rattle.view_change.specs.declared.StartViewVerdict.TheVariants as Verdicts
use Rattle.steps.proofs.RefusedSteps.{Untouched, Speaks, done, refused, acked-done}
use Rattle.frames.specs.declared.Refusal.TheVariants.{NoRoomForMessages, Uncommits}

module _ (s : Replica) (m : Memory) where
  -- ---- messages alone

  pub started-untouched : (t : Replica) (v : View) → Speaks s m (started_change s t v m.out)
  unfolding started_change
  started-untouched t v = split (Speaks s m) _ _ _ (λ _. refused s m NoRoomForMessages) (λ _. done s m refl)

  pub sent-start-view-untouched : (to : ℕ) (log : List ℕ) → Speaks s m (sent_start_view s to log m.out)
  unfolding sent_start_view
  sent-start-view-untouched to log = split (Speaks s m) _ _ _ (λ _. refused s m NoRoomForMessages) (λ _. done s m refl)

  -- ---- StartView

  abbrev Joins : Joined → Type 0
  Joins d = Untouched s m (of_joined m d)

  verdict-untouched : (v : View) (o c : Op) (part : List ℕ) (d : StartViewVerdict)
      → Joins (StartView.by_start_view_verdict d s v o c part m.runs m.acks m.out)
  unfolding StartView.by_start_view_verdict joined_by
  verdict-untouched v o c part Verdicts.Ignore = done s m refl
  verdict-untouched v o c part Verdicts.Refuse = refused s m Uncommits
  verdict-untouched v o c part Verdicts.Join =
      split Joins _ _ _ (λ _. refused s m NoRoomForMessages) (λ e. done s m (acked-done s _ c true _ m.out e))

  pub start-view-untouched : (v : View) (o c : Op) (part : List ℕ) → Joins (start_view_step s v o c part m.runs m.acks m.out)
  unfolding start_view_step
  start-view-untouched v o c part = verdict-untouched v o c part (StartView.start_view_verdict s v o part m.runs.log)
