-- StartView, and the start of a view change, aren't refused for want of room in areas of `out_length` and `reps_length` bytes. Assumes nothing.
use mathlib.Core.Path.{◌≡◌}
use mathlib.Core.Bool.{true}
use mathlib.Core.List.{List}
use Prim.Native.Nat.{ℕ, ◌≤◌}
use native.Mathlib.Omega.{arith}
use lib.ListN.{length}
use Rattle.numbers.specs.declared.View.{View}
use Rattle.numbers.specs.declared.Op.{Op}
use Rattle.numbers.proofs.WordLaws.{split}
use Rattle.config.specs.Setup.{setup_ok}
use Rattle.state.specs.declared.Replica.{Replica}
use Rattle.steps.specs.Areas.{out_length}
use Rattle.steps.proofs.AreaLaws.{Answers, one-fits, each_fits, later, done, no_room}
use Rattle.steps.proofs.StepsSuffice.{Spoken, acked-suffices}
use Rattle.book.specs.Memory.{Runs}
use Rattle.view_change.specs.StartViewChange.{calls_length, started_change}
use Rattle.view_change.specs.StartView as StartView
use Rattle.view_change.specs.StartView.{start_view_length, sent_start_view, Joined, joined_by, start_view_step}
use Rattle.view_change.specs.declared.StartViewVerdict.{StartViewVerdict}
use Rattle.view_change.specs.declared.StartViewVerdict.TheVariants as Verdicts
use Rattle.state.specs.Answers.{code_of}

pub calls-fit : (t : Replica) → setup_ok t.setup ≡ true → calls_length t ≤ out_length t.setup
calls-fit t ok = omega (arith, each_fits t.setup ok 12 (omega arith))

-- `room` is the length of the area for replies
module _ (out : List ℕ) (room : ℕ) where
  -- ---- messages alone

  pub started-suffices : (s t : Replica) (ok : setup_ok t.setup ≡ true) (v : View) → Spoken t.setup ok out room (started_change s t v out)
  unfolding started_change
  started-suffices s t ok v = split (Spoken t.setup ok out room) _ _ _ (no_room (calls_length t) (calls-fit t ok)) (λ _. done)

  module _ (s : Replica) (ok : setup_ok s.setup ≡ true) where
    pub sent-start-view-suffices : s.op.0 ≤ s.setup.room → (to : ℕ) (log : List ℕ) → Spoken s.setup ok out room (sent_start_view s to log out)
    unfolding sent_start_view
    sent-start-view-suffices l to log =
        split (Spoken s.setup ok out room) _ _ _
        (no_room (start_view_length s) (one-fits s.setup ok (start_view_length s) (omega (arith, l)))) (λ _. done)

    -- ---- StartView

    abbrev Joins : Joined → Type 0
    Joins d = Answers s.setup (length out) room (code_of d.answer)

    module _ (v : View) (o c : Op) (part : List ℕ) (x : Runs) (acks : List ℕ) where
      verdict-suffices : (d : StartViewVerdict) → Joins (StartView.by_start_view_verdict d s v o c part x acks out)
      unfolding StartView.by_start_view_verdict joined_by
      verdict-suffices Verdicts.Ignore = done
      verdict-suffices Verdicts.Refuse = later (omega arith) (omega arith)
      verdict-suffices Verdicts.Join =
          split Joins _ _ _ (no_room 16 (one-fits s.setup ok 16 (omega arith)))
          (λ _. acked-suffices s.setup ok out room s _ c _ _)

      pub start-view-suffices : Joins (start_view_step s v o c part x acks out)
      unfolding start_view_step
      start-view-suffices = verdict-suffices (StartView.start_view_verdict s v o part x.log)
