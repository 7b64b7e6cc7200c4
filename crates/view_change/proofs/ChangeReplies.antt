-- StartView, and the start of a view change, give no replies. Assumes nothing.
use mathlib.Core.Path.{◌≡◌, refl}
use mathlib.Core.List.{List}
use Prim.Native.Nat.{ℕ}
use Rattle.numbers.specs.declared.View.{View}
use Rattle.numbers.specs.declared.Op.{Op}
use Rattle.numbers.proofs.WordLaws.{split}
use Rattle.state.specs.declared.Replica.{Replica}
use Rattle.steps.proofs.SilentSteps.{Mute, acked-mute}
use Rattle.book.specs.Memory.{Runs}
use Rattle.view_change.specs.StartViewChange.{started_change}
use Rattle.view_change.specs.StartView as StartView
use Rattle.view_change.specs.StartView.{sent_start_view, Joined, joined_by, start_view_step}
use Rattle.view_change.specs.declared.StartViewVerdict.{StartViewVerdict}
use Rattle.view_change.specs.declared.StartViewVerdict.TheVariants as Verdicts
use Rattle.state.specs.Answers.{replies_written}

-- ---- messages alone

pub started-mute : (s t : Replica) (v : View) (out : List ℕ) → Mute (started_change s t v out)
unfolding started_change
started-mute s t v out = split Mute _ _ _ (λ _. refl) (λ _. refl)

pub sent-start-view-mute : (s : Replica) (to : ℕ) (log out : List ℕ) → Mute (sent_start_view s to log out)
unfolding sent_start_view
sent-start-view-mute s to log out = split Mute _ _ _ (λ _. refl) (λ _. refl)

-- ---- StartView

abbrev MuteJoined : Joined → Type 0
MuteJoined d = replies_written d.answer ≡ 0

module _ (s : Replica) (v : View) (o c : Op) (part : List ℕ) (x : Runs) (acks out : List ℕ) where
  verdict-mute : (d : StartViewVerdict) → MuteJoined (StartView.by_start_view_verdict d s v o c part x acks out)
  unfolding StartView.by_start_view_verdict joined_by
  verdict-mute Verdicts.Ignore = refl
  verdict-mute Verdicts.Refuse = refl
  verdict-mute Verdicts.Join = split MuteJoined _ _ _ (λ _. refl) (λ _. acked-mute s _ c _ _ out)

  pub start-view-mute : (replies_written (start_view_step s v o c part x acks out).answer) ≡ 0
  unfolding start_view_step
  start-view-mute = verdict-mute (StartView.start_view_verdict s v o part x.log)
