-- StartViewChange, and the ticks that start a view change or repeat its messages, keep the entry rules. Assumes nothing.
use Prim.Native.Nat.{ℕ}
use mathlib.Core.Bool.{Bool, true, false}
use Rattle.numbers.specs.declared.View.{View}
use Rattle.numbers.proofs.WordLaws.{split}
use Rattle.state.specs.State.{changing_to, with_start, with_sent, with_clock}
use Rattle.state.specs.declared.Replica.{Replica}
use Rattle.steps.specs.Recorded.{only_sent}
use Rattle.book.specs.Memory.{Memory}
use Rattle.voting.specs.Votes.{sent_first, maybe_step, same_view, start_view_change_step}
use Rattle.steps.proofs.Ruled.{Has, RuledBy, cleared, still, asked-has, SentRuled}
use Rattle.view_change.proofs.ChangeRuled.{start-view-has, started-has}
use Rattle.do_view_change.proofs.RecordRuled.{send-ruled}
use Rattle.clock.specs.declared.Clock.{Clock}
use Rattle.voting.specs.Tick.{next_view, next_view_asking, repeated}

-- from state t; s is the state as it was
module _ (s t : Replica) (m : Memory) (hs : Has s m) (ht : Has t m) where
  pub called-ruled : (first : Bool) → RuledBy (only_sent m (sent_first s t first m.out))
  unfolding sent_first
  called-ruled first = split (SentRuled m) _ _ _ (λ _. still hs) (λ _. still ht)

module _ (s : Replica) (m : Memory) (h : Has s m) where
  maybe-ruled : (t : Replica) (first : Bool) → Has t m → RuledBy (maybe_step s t first m)
  unfolding maybe_step
  maybe-ruled t first g = split RuledBy _ _ _ (λ _. send-ruled s (with_sent t) m h g first) (λ _. called-ruled s t m h g first)

  same-view-ruled : (r : ℕ) → RuledBy (same_view s r m)
  unfolding same_view
  same-view-ruled r =
      split RuledBy _ _ _ (λ _. maybe-ruled (with_start s r) false h) λ _.
      split RuledBy _ _ _ (λ _. still h) λ _.
      split RuledBy _ _ _ (λ _. still (start-view-has s m h r m.runs.log m.out)) λ _. still h

  pub start-view-change-ruled : (v : View) (r : ℕ) → RuledBy (start_view_change_step s v r m)
  unfolding start_view_change_step
  start-view-change-ruled v r =
      split RuledBy _ _ _ (λ _. still h) λ _.
      split RuledBy _ _ _ (λ _. maybe-ruled (with_start (changing_to s v) r) true (cleared h)) λ _. same-view-ruled r

-- ---- ticks

module _ (s : Replica) (m : Memory) (h : Has s m) where
  pub next-view-ruled : (c : Clock) → SentRuled m (next_view s c m.out)
  unfolding next_view
  next-view-ruled c =
      split (SentRuled m) _ _ _ (λ _. still h) λ _. still (started-has s m h (with_clock s c) _ m.out (cleared h))

  pub asking-ruled : (c : Clock) → SentRuled m (next_view_asking s c m.out)
  unfolding next_view_asking
  asking-ruled c =
      split (SentRuled m) _ _ _ (λ _. still h) λ _.
      split (SentRuled m) _ _ _ (λ _. still h) λ _. still (cleared h)

  pub repeated-ruled : (c : Clock) → RuledBy (repeated s c m)
  unfolding repeated
  repeated-ruled c =
      split RuledBy _ _ _ (λ _. still (asked-has s m h (with_clock s c) s.commit m.out h)) λ _.
      split RuledBy _ _ _ (λ _. send-ruled s (with_clock s c) m h h true) λ _. called-ruled s (with_clock s c) m h h true
