-- Creation, but for the client table: `new`, and `recover` for a replica that is back from a crash. Of the runs that it only measures it has the lengths.
-- Assumes nothing.
use Rattle.std.specs.Prelude.{false, not, List, ℕ, ltb, length, replicate}
use Rattle.numbers.specs.Words.{when◌then◌else◌}
use Rattle.numbers.specs.Numbers.{over}
use Rattle.numbers.specs.declared.View.{View}
use Rattle.config.specs.declared.Setup.{Setup}
use Rattle.frames.specs.declared.Status.TheVariants.{Normal, Recovering}
use Rattle.state.specs.State.{new_in}
use Rattle.state.specs.Answers.{refusal, completed, quiet}
use Rattle.state.specs.Lengths.{acks_length, totals_length}
use Rattle.state.specs.declared.Returned.{Returned}
use Rattle.book.specs.Memory.{Memory, memory}
use Rattle.recovery.specs.Recovery.{recoveries_length, recoveries_of}
use Rattle.outside.specs.Sound.{creatable, no_replica}
use Rattle.outside.specs.declared.Lengths.{Lengths}
use Rattle.frames.specs.declared.Refusal.TheVariants.{OutOfRange, NoRoomForMessages}

-- the answer, and the runs that a creation writes
pub record Started : Type 0 where
  pub answer : Returned
  pub totals : List ℕ
  pub acks : List ℕ
  pub out : List ℕ

abbrev pub started : Returned → (totals acks out : List ℕ) → Started
started a totals acks out = record { answer = a; totals = totals; acks = acks; out = out }

-- the core's runs then; the others stay as they were
abbrev pub started_memory : Memory → Started → Memory
started_memory m d = memory m.runs.log m.runs.money.results d.totals d.acks m.stored d.out m.reps

-- one that isn't refused: totals and acks are zeroed
abbrev pub zeroed : Setup → Returned → (totals acks out : List ℕ) → Started
zeroed u a totals acks out = started a (over (replicate (totals_length u) 0) totals) (over (replicate (acks_length u) 0) acks) out

-- new: in Normal, in view 0, with an empty log; it sends nothing
unfoldable pub create_step : Setup → Lengths → (totals acks out : List ℕ) → Started
create_step u l totals acks out =
    when not (creatable u l) then started (refusal OutOfRange no_replica) totals acks out else
    zeroed u (quiet (new_in u Normal (record { 0 = 0 }) 0)) totals acks out

-- recover, with the view that was persisted and a nonce: 1, then 9
unfoldable pub recover_step : Setup → View → (nonce : ℕ) → Lengths → (totals acks out : List ℕ) → Started
recover_step u v k l totals acks out =
    when not (creatable u l) then started (refusal OutOfRange no_replica) totals acks out else
    when ltb (length out) (recoveries_length (new_in u Recovering v k)) then started (refusal NoRoomForMessages no_replica) totals acks out else
    zeroed u (completed (new_in u Recovering v k) (recoveries_length (new_in u Recovering v k)) 0 false)
    totals acks (over (recoveries_of (new_in u Recovering v k)) out)
