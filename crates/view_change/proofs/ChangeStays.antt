-- StartView, and the start of a view change, keep what refusal 1 asks. Assumes nothing.
use mathlib.Core.Path.{◌≡◌, refl, ◌∙◌}
use mathlib.Core.Bool.{true}
use mathlib.Core.List.{List}
use Prim.Native.Nat.{ℕ, ◌≤◌, ◌*◌}
use native.Mathlib.Omega.{arith}
use lib.ListN.{length, replicate, length-replicate}
use Rattle.numbers.specs.declared.View.{View}
use Rattle.numbers.specs.declared.Op.{Op}
use Rattle.numbers.proofs.WordLaws.{split}
use Rattle.state.specs.State.{changing_to, with_log, normal_in}
use Rattle.state.specs.declared.Replica.{Replica}
use Rattle.steps.specs.Steps.{Spoke}
use Rattle.book.specs.Memory.{Runs, Memory}
use Rattle.view_change.specs.StartViewChange.{started_change}
use Rattle.steps.specs.Recorded.{Gathering}
use Rattle.numbers.proofs.RunLaws.{length_over}
use Rattle.view_change.specs.StartView as StartView
use Rattle.view_change.specs.StartView.{LogPassed, Joined, with_log_of, sent_start_view, joined_by, start_view_step, of_joined}
use Rattle.view_change.specs.declared.StartViewVerdict.{StartViewVerdict}
use Rattle.view_change.specs.declared.StartViewVerdict.TheVariants as Verdicts
use Rattle.view_change.proofs.StartViewLaws.{join-keeps, joins-sound}
use Rattle.state.proofs.SoundLaws.{none-gathered}
use Rattle.steps.proofs.Held.{Held, Kept, as_it_was, acked-held}

-- ---- the start of a view change

module _ {s : Replica} {x : Runs} (h : Held s.setup s x) where
  pub started-held : (t : Replica) (v : View) (out : List ℕ) → Held s.setup (changing_to t v) x
      → Held s.setup (started_change s t v out).answer.state x
  unfolding started_change
  started-held t v out g = split (λ (d : Spoke). Held s.setup d.answer.state x) _ _ _ (λ _. h) (λ _. g)

-- ---- StartView

pub sent-start-view-held : {s : Replica} {x : Runs} (to : ℕ) (log out : List ℕ) → Held s.setup s x
    → Held s.setup (sent_start_view s to log out).answer.state x
unfolding sent_start_view
sent-start-view-held {s} {x} to log out h = split (λ (d : Spoke). Held s.setup d.answer.state x) _ _ _ (λ _. h) (λ _. h)

module _ (s : Replica) (m : Memory) (h : Gathering s m) (v : View) (o c : Op) (part : List ℕ) (k : LogPassed s o c)
    (l : 32 * o.0 ≤ length part) where
  abbrev JoinedKept : Joined → Type 0
  JoinedKept d = Kept s.setup (of_joined m d)

  join-held : s.commit.0 ≤ o.0 → Held s.setup (with_log (normal_in s v) o s.commit) (with_log_of o part m.runs)
  join-held g =
      record {
        sound =
            (joins-sound s v o c part m.runs.log m.runs.money.results m.runs.money.totals m.acks m.out h.sound k g l
            _ _ refl refl).0;
        setup = refl;
        reports = none-gathered s.setup;
      }

  verdict-kept : (d : StartViewVerdict) → StartView.start_view_verdict s v o part m.runs.log ≡ d
      → JoinedKept (StartView.by_start_view_verdict d s v o c part m.runs m.acks m.out)
  unfolding StartView.by_start_view_verdict joined_by
  verdict-kept Verdicts.Ignore e = record { held = as_it_was h; acks-long = h.acks-long; stored-long = h.stored-long }
  verdict-kept Verdicts.Refuse e = record { held = as_it_was h; acks-long = h.acks-long; stored-long = h.stored-long }
  verdict-kept Verdicts.Join e =
      let w : List ℕ = replicate s.setup.room 0 in
      let n : length w ≡ s.setup.room = length-replicate s.setup.room 0 in
      split JoinedKept _ _ _
      (λ _. record { held = as_it_was h; acks-long = h.acks-long; stored-long = h.stored-long })
      (λ _.
      record {
        held =
            acked-held c true m.out (as_it_was h) (join-held (join-keeps s o part m.runs.log v e)) k.commit-le;
        acks-long = length_over w m.acks (omega (arith, n, h.acks-long)) ∙ h.acks-long;
        stored-long = h.stored-long;
      })

  pub start-view-kept : JoinedKept (start_view_step s v o c part m.runs m.acks m.out)
  unfolding start_view_step
  start-view-kept = verdict-kept (StartView.start_view_verdict s v o part m.runs.log) refl
