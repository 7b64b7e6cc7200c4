-- A refused StartViewChange leaves the state and every lent byte as they were; so does a refused tick that starts or goes on with a view change.
-- Assumes nothing.
use Prim.Native.Nat.{ℕ}
use mathlib.Core.Path.{refl}
use mathlib.Core.Bool.{Bool, true, false}
use Rattle.numbers.specs.declared.View.{View}
use Rattle.numbers.proofs.WordLaws.{split}
use Rattle.clock.specs.declared.Clock.{Clock}
use Rattle.state.specs.declared.Replica.{Replica}
use Rattle.book.specs.Memory.{Memory}
use Rattle.voting.specs.Votes.{sent_first, maybe_step, same_view, start_view_change_step}
use Rattle.voting.specs.Tick.{next_view, next_view_asking, repeated, change_tick}
use Rattle.steps.proofs.RefusedSteps.{Untouched, Speaks, done, refused, asked-untouched}
use Rattle.view_change.proofs.RefusedChange.{started-untouched, sent-start-view-untouched}
use Rattle.do_view_change.proofs.RefusedRecord.{send-untouched}
use Rattle.frames.specs.declared.Refusal.TheVariants.{LastView, NoRoomForMessages}

module _ (s : Replica) (m : Memory) where
  -- ---- StartViewChange

  called-untouched : (t : Replica) (first : Bool) → Speaks s m (sent_first s t first m.out)
  unfolding sent_first
  called-untouched t first = split (Speaks s m) _ _ _ (λ _. refused s m NoRoomForMessages) (λ _. done s m refl)

  maybe-untouched : (t : Replica) (first : Bool) → Untouched s m (maybe_step s t first m)
  unfolding maybe_step
  maybe-untouched t first = split (Untouched s m) _ _ _ (λ _. send-untouched s m _ first) (λ _. called-untouched t first)

  same-view-untouched : (r : ℕ) → Untouched s m (same_view s r m)
  unfolding same_view
  same-view-untouched r =
      split (Untouched s m) _ _ _ (λ _. maybe-untouched _ false) λ _.
      split (Untouched s m) _ _ _ (λ _. done s m refl) λ _.
      split (Untouched s m) _ _ _ (λ _. sent-start-view-untouched s m r m.runs.log) (λ _. done s m refl)

  pub start-view-change-untouched : (v : View) (r : ℕ) → Untouched s m (start_view_change_step s v r m)
  unfolding start_view_change_step
  start-view-change-untouched v r =
      split (Untouched s m) _ _ _ (λ _. done s m refl) λ _.
      split (Untouched s m) _ _ _ (λ _. maybe-untouched _ true) (λ _. same-view-untouched r)

  -- ---- ticks; c is the clock after it

  module _ (c : Clock) where
    pub next-view-untouched : Speaks s m (next_view s c m.out)
    unfolding next_view
    next-view-untouched = split (Speaks s m) _ _ _ (λ _. refused s m LastView) (λ _. started-untouched s m _ _)

    pub next-view-asking-untouched : Speaks s m (next_view_asking s c m.out)
    unfolding next_view_asking
    next-view-asking-untouched =
        split (Speaks s m) _ _ _ (λ _. refused s m LastView) λ _.
        split (Speaks s m) _ _ _ (λ _. refused s m NoRoomForMessages) (λ _. done s m refl)

    repeated-untouched : Untouched s m (repeated s c m)
    unfolding repeated
    repeated-untouched =
        split (Untouched s m) _ _ _ (λ _. asked-untouched s m _ _) λ _.
        split (Untouched s m) _ _ _ (λ _. send-untouched s m _ true) (λ _. called-untouched _ true)

    pub change-tick-untouched : (up : Bool) → Untouched s m (change_tick s c up m)
    unfolding change_tick
    change-tick-untouched up = split (Untouched s m) _ _ _ (λ _. next-view-untouched) (λ _. repeated-untouched)
