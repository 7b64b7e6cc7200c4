-- What StartViewChange, and a tick that starts or goes on with a view change, leave in the area for replies: Replies with outcomes of 1 to 6.
-- Assumes nothing.
use mathlib.Core.Path.{◌≡◌, refl}
use mathlib.Core.Bool.{Bool, true, false}
use mathlib.Core.List.{List}
use Prim.Native.Nat.{ℕ, ◌<◌}
use lib.ListN.{length}
use Rattle.numbers.specs.declared.View.{View}
use Rattle.numbers.proofs.WordLaws.{split}
use Rattle.clock.specs.declared.Clock.{Clock}
use Rattle.state.specs.State.{with_clock, changing_to, with_start, with_sent}
use Rattle.state.specs.Lengths.{stored_length}
use Rattle.state.specs.declared.Replica.{Replica}
use Rattle.steps.specs.Recorded.{Gathering}
use Rattle.state.proofs.SoundLaws.{none-gathered, start-gathered}
use Rattle.steps.proofs.Held.{Held, as_it_was, moves}
use Rattle.steps.proofs.ReplyLaws.{silent}
use Rattle.steps.proofs.SilentSteps.{Mute, still, asked-mute}
use Rattle.book.specs.Memory.{Memory}
use Rattle.view_change.proofs.ChangeReplies.{started-mute, sent-start-view-mute}
use Rattle.do_view_change.proofs.RecordReplies.{Answers, send-replies}
use Rattle.voting.specs.Votes.{sent_first, maybe_step, same_view, start_view_change_step}
use Rattle.voting.specs.Tick.{next_view, next_view_asking, repeated, change_tick}

called-mute : (s t : Replica) (first : Bool) (out : List ℕ) → Mute (sent_first s t first out)
unfolding sent_first
called-mute s t first out = split Mute _ _ _ (λ _. refl) (λ _. refl)

-- from state t; s is the state as it was
maybe-replies : (s t : Replica) (m : Memory) → Held t.setup t m.runs → length m.stored ≡ stored_length t.setup → (first : Bool)
    → Answers m (maybe_step s t first m)
unfolding maybe_step
maybe-replies s t m ht l first =
    split (Answers m) _ _ _ (λ _. send-replies s (with_sent t) m (moves ht (with_sent t) refl refl refl ht.reports) l first)
    (λ _. still _ (called-mute s t first m.out))

module _ (s : Replica) (m : Memory) (h : Gathering s m) where
  abbrev here : Held s.setup s m.runs
  here = as_it_was h

  -- ---- StartViewChange

  same-view-replies : (r : ℕ) → r < s.setup.n → Answers m (same_view s r m)
  unfolding same_view
  same-view-replies r lt =
      split (Answers m) _ _ _
      (λ _. maybe-replies s (with_start s r) m (moves here (with_start s r) refl refl refl (start-gathered s.setup s.starts r _ lt h.reports)) h.stored-long false) λ _.
      split (Answers m) _ _ _ (λ _. silent) λ _.
      split (Answers m) _ _ _ (λ _. still _ (sent-start-view-mute s r m.runs.log m.out)) λ _. silent

  pub start-view-change-replies : (v : View) (r : ℕ) → r < s.setup.n → Answers m (start_view_change_step s v r m)
  unfolding start_view_change_step
  start-view-change-replies v r lt =
      let t = with_start (changing_to s v) r in
      split (Answers m) _ _ _ (λ _. silent) λ _.
      split (Answers m) _ _ _ (λ _. maybe-replies s t m (moves here t refl refl refl (start-gathered s.setup 0 r _ lt (none-gathered s.setup))) h.stored-long true) λ _.
      same-view-replies r lt

  -- ---- ticks; c is the clock after it

  module _ (c : Clock) where
    pub next-view-mute : Mute (next_view s c m.out)
    unfolding next_view
    next-view-mute = split Mute _ _ _ (λ _. refl) (λ _. started-mute s _ _ m.out)

    pub next-view-asking-mute : Mute (next_view_asking s c m.out)
    unfolding next_view_asking
    next-view-asking-mute = split Mute _ _ _ (λ _. refl) (λ _. split Mute _ _ _ (λ _. refl) (λ _. refl))

    repeated-replies : Answers m (repeated s c m)
    unfolding repeated
    repeated-replies =
        split (Answers m) _ _ _ (λ _. still _ (asked-mute s _ _ m.out)) λ _.
        split (Answers m) _ _ _
        (λ _. send-replies s (with_clock s c) m (moves here (with_clock s c) refl refl refl h.reports) h.stored-long true) λ _.
        still _ (called-mute s _ true m.out)

    pub change-tick-replies : (up : Bool) → Answers m (change_tick s c up m)
    unfolding change_tick
    change-tick-replies up = split (Answers m) _ _ _ (λ _. still _ next-view-mute) (λ _. repeated-replies)
