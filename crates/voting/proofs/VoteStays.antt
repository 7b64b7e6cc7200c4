-- StartViewChange, and a tick that starts or goes on with a view change, keep what refusal 1 asks. Assumes nothing.
use mathlib.Core.Path.{◌≡◌, refl}
use mathlib.Core.Bool.{Bool, true, false}
use Prim.Native.Nat.{ℕ, ◌<◌}
use lib.ListN.{length}
use Rattle.numbers.specs.declared.View.{View}
use Rattle.numbers.proofs.WordLaws.{split}
use Rattle.clock.specs.declared.Clock.{Clock}
use Rattle.state.specs.State.{with_clock, changing_to, with_start, with_sent}
use Rattle.state.specs.Lengths.{acks_length, stored_length}
use Rattle.state.specs.declared.Replica.{Replica}
use Rattle.steps.specs.Steps.{Spoke}
use Rattle.steps.specs.Recorded.{Gathering, only_sent}
use Rattle.book.specs.Memory.{Memory}
use Rattle.voting.specs.Votes.{sent_first, maybe_step, same_view, start_view_change_step}
use Rattle.voting.specs.Tick.{view_after, next_view, next_view_asking, repeated, change_tick}
use Rattle.state.proofs.SoundLaws.{none-gathered, start-gathered}
use Rattle.steps.proofs.Held.{Held, Kept, as_it_was, moves, asked-held, still_kept, sent-kept}
use Rattle.view_change.proofs.ChangeStays.{started-held, sent-start-view-held}
use Rattle.do_view_change.proofs.RecordStays.{send-kept}

-- from state t; s is the state as it was
module _ (s t : Replica) (m : Memory) (hs : Held t.setup s m.runs) (ht : Held t.setup t m.runs)
    (acks-long : length m.acks ≡ acks_length t.setup) (stored-long : length m.stored ≡ stored_length t.setup) where
  called-kept : (first : Bool) → Kept t.setup (only_sent m (sent_first s t first m.out))
  unfolding sent_first
  called-kept first =
      split (λ (d : Spoke). Kept t.setup (only_sent m d)) _ _ _
      (λ _. record { held = hs; acks-long = acks-long; stored-long = stored-long })
      (λ _. record { held = ht; acks-long = acks-long; stored-long = stored-long })

  maybe-kept : (first : Bool) → Kept t.setup (maybe_step s t first m)
  unfolding maybe_step
  maybe-kept first =
      split (Kept t.setup) _ _ _
      (λ _. send-kept s (with_sent t) m hs (moves ht (with_sent t) refl refl refl ht.reports) acks-long stored-long first)
      (λ _. called-kept first)

module _ (s : Replica) (m : Memory) (h : Gathering s m) where
  abbrev here : Held s.setup s m.runs
  here = as_it_was h

  -- ---- on_start_view_change

  same-view-kept : (r : ℕ) → r < s.setup.n → Kept s.setup (same_view s r m)
  unfolding same_view
  same-view-kept r lt =
      split (Kept s.setup) _ _ _
      (λ _.
      maybe-kept s (with_start s r) m here (moves here (with_start s r) refl refl refl (start-gathered s.setup s.starts r _ lt h.reports)) h.acks-long h.stored-long false)
      λ _.
      split (Kept s.setup) _ _ _ (λ _. still_kept h _ here) λ _.
      split (Kept s.setup) _ _ _ (λ _. sent-kept h _ (sent-start-view-held r m.runs.log m.out here)) λ _.
      still_kept h _ here

  pub start-view-change-kept : (v : View) (r : ℕ) → r < s.setup.n → Kept s.setup (start_view_change_step s v r m)
  unfolding start_view_change_step
  start-view-change-kept v r lt =
      let t = with_start (changing_to s v) r in
      split (Kept s.setup) _ _ _ (λ _. still_kept h _ here) λ _.
      split (Kept s.setup) _ _ _
      (λ _. maybe-kept s t m here (moves here t refl refl refl (start-gathered s.setup 0 r _ lt (none-gathered s.setup))) h.acks-long h.stored-long true)
      λ _. same-view-kept r lt

  -- ---- ticks; c is the clock after it

  module _ (c : Clock) where
    ticked : Held s.setup (with_clock s c) m.runs
    ticked = moves here (with_clock s c) refl refl refl h.reports

    changed : (v : View) → Held s.setup (changing_to (with_clock s c) v) m.runs
    changed v = moves here (changing_to (with_clock s c) v) refl refl refl (none-gathered s.setup)

    abbrev Speaks : Spoke → Type 0
    Speaks d = Held s.setup d.answer.state m.runs

    pub next-view-held : Speaks (next_view s c m.out)
    unfolding next_view
    next-view-held =
        split Speaks _ _ _ (λ _. here) (λ _. started-held here (with_clock s c) (view_after s) m.out (changed (view_after s)))

    pub next-view-asking-held : Speaks (next_view_asking s c m.out)
    unfolding next_view_asking
    next-view-asking-held =
        split Speaks _ _ _ (λ _. here) (λ _. split Speaks _ _ _ (λ _. here) (λ _. changed (view_after s)))

    repeated-kept : Kept s.setup (repeated s c m)
    unfolding repeated
    repeated-kept =
        split (Kept s.setup) _ _ _ (λ _. sent-kept h _ (asked-held here (with_clock s c) s.commit m.out ticked)) λ _.
        split (Kept s.setup) _ _ _ (λ _. send-kept s (with_clock s c) m here ticked h.acks-long h.stored-long true) λ _.
        called-kept s (with_clock s c) m here ticked h.acks-long h.stored-long true

    pub change-tick-kept : (up : Bool) → Kept s.setup (change_tick s c up m)
    unfolding change_tick
    change-tick-kept up = split (Kept s.setup) _ _ _ (λ _. sent-kept h _ next-view-held) (λ _. repeated-kept)
