-- StartViewChange, and a tick that starts or goes on with a view change, aren't refused for want of room in areas of `out_length` and `reps_length`
-- bytes. Assumes nothing.
use mathlib.Core.Path.{◌≡◌, refl}
use mathlib.Core.Bool.{Bool, true, false}
use Prim.Native.Nat.{ℕ, ◌+◌, ◌<◌}
use native.Mathlib.Omega.{arith}
use lib.ListN.{length}
use Rattle.numbers.specs.declared.View.{View}
use Rattle.numbers.proofs.WordLaws.{split}
use Rattle.config.proofs.SetupLaws.{sized}
use Rattle.clock.specs.declared.Clock.{Clock}
use Rattle.state.specs.State.{with_clock, changing_to, with_start, with_sent}
use Rattle.state.specs.Lengths.{stored_length}
use Rattle.state.specs.declared.Replica.{Replica}
use Rattle.steps.specs.Steps.{Spoke}
use Rattle.steps.specs.Recorded.{Recorded, Gathering, only_sent}
use Rattle.steps.proofs.AreaLaws.{Answers, both-fit, later, done, no_room}
use Rattle.steps.proofs.StepsSuffice.{Spoken, asked-suffices}
use Rattle.state.proofs.SoundLaws.{none-gathered, start-gathered}
use Rattle.steps.proofs.Held.{Held, as_it_was, moves}
use Rattle.book.specs.Memory.{Memory}
use Rattle.view_change.specs.StartViewChange.{calls_length}
use Rattle.view_change.proofs.ChangeSuffices.{started-suffices, sent-start-view-suffices}
use Rattle.do_view_change.specs.Begin.{first_length}
use Rattle.do_view_change.proofs.RecordSuffices.{Enough, first_fits, send-suffices}
use Rattle.voting.specs.Votes.{sent_first, maybe_step, same_view, start_view_change_step}
use Rattle.voting.specs.Tick.{view_after, next_view, next_view_asking, repeated, change_tick}
use Rattle.state.specs.Answers.{code_of}

-- from state t; s is the state as it was
module _ (s t : Replica) (m : Memory) (ht : Held t.setup t m.runs) (stored-long : length m.stored ≡ stored_length t.setup) where
  abbrev EnoughThere : Recorded → Type 0
  EnoughThere = Enough s t m ht stored-long

  called-suffices : (first : Bool) → EnoughThere (only_sent m (sent_first s t first m.out))
  unfolding sent_first
  called-suffices first =
      split (λ (d : Spoke). EnoughThere (only_sent m d)) _ _ _ (no_room (first_length first t) (first_fits t ht.sound.sized first)) (λ _. done)

  maybe-suffices : (first : Bool) → EnoughThere (maybe_step s t first m)
  unfolding maybe_step
  maybe-suffices first =
      split EnoughThere _ _ _ (λ _. send-suffices s (with_sent t) m (moves ht (with_sent t) refl refl refl ht.reports) stored-long first)
      (λ _. called-suffices first)

module _ (s : Replica) (m : Memory) (h : Gathering s m) where
  abbrev here : Held s.setup s m.runs
  here = as_it_was h

  abbrev EnoughHere : Recorded → Type 0
  EnoughHere d = Answers s.setup (length m.out) (length m.reps) (code_of d.answer)

  -- ---- StartViewChange

  same-view-suffices : (r : ℕ) → r < s.setup.n → EnoughHere (same_view s r m)
  unfolding same_view
  same-view-suffices r lt =
      split EnoughHere _ _ _
      (λ _. maybe-suffices s (with_start s r) m (moves here (with_start s r) refl refl refl (start-gathered s.setup s.starts r _ lt h.reports)) h.stored-long false) λ _.
      split EnoughHere _ _ _ (λ _. done) λ _.
      split EnoughHere _ _ _
      (λ _. sent-start-view-suffices m.out (length m.reps) s h.sound.sized h.sound.op_le r m.runs.log) λ _. done

  pub start-view-change-suffices : (v : View) (r : ℕ) → r < s.setup.n → EnoughHere (start_view_change_step s v r m)
  unfolding start_view_change_step
  start-view-change-suffices v r lt =
      let t = with_start (changing_to s v) r in
      split EnoughHere _ _ _ (λ _. done) λ _.
      split EnoughHere _ _ _ (λ _. maybe-suffices s t m (moves here t refl refl refl (start-gathered s.setup 0 r _ lt (none-gathered s.setup))) h.stored-long true) λ _.
      same-view-suffices r lt

  -- ---- ticks; c is the clock after it

  module _ (c : Clock) where
    ticked : Held s.setup (with_clock s c) m.runs
    ticked = moves here (with_clock s c) refl refl refl h.reports

    abbrev SpokenHere : Spoke → Type 0
    SpokenHere = Spoken s.setup h.sound.sized m.out (length m.reps)

    pub next-view-suffices : SpokenHere (next_view s c m.out)
    unfolding next_view
    next-view-suffices =
        split SpokenHere _ _ _ (λ _. later (omega arith) (omega arith))
        (λ _. started-suffices m.out (length m.reps) s (with_clock s c) h.sound.sized (view_after s))

    pub next-view-asking-suffices : SpokenHere (next_view_asking s c m.out)
    unfolding next_view_asking
    next-view-asking-suffices =
        split SpokenHere _ _ _ (λ _. later (omega arith) (omega arith)) λ _.
        split SpokenHere _ _ _
        (no_room (16 + calls_length s) (omega (arith, both-fit s.setup h.sound.sized 12 16 (omega (arith, (sized s.setup h.sound.sized).room-low))))) λ _. done

    repeated-suffices : EnoughHere (repeated s c m)
    unfolding repeated
    repeated-suffices =
        split EnoughHere _ _ _ (λ _. asked-suffices s.setup h.sound.sized m.out (length m.reps) s _ _) λ _.
        split EnoughHere _ _ _ (λ _. send-suffices s (with_clock s c) m ticked h.stored-long true) λ _.
        called-suffices s (with_clock s c) m ticked h.stored-long true

    pub change-tick-suffices : (up : Bool) → EnoughHere (change_tick s c up m)
    unfolding change_tick
    change-tick-suffices up = split EnoughHere _ _ _ (λ _. next-view-suffices) (λ _. repeated-suffices)
