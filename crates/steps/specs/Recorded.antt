-- What a call leaves of answer and memory, and what refusal 1 leaves for those that gather reports. Assumes nothing.
use Rattle.std.specs.Prelude.{◌≡◌, true, length}
use Rattle.state.specs.Lengths.{acks_length, stored_length}
use Rattle.state.specs.declared.Returned.{Returned}
use Rattle.state.specs.declared.Replica.{Replica}
use Rattle.state.specs.Sound.{gathered_ok}
use Rattle.steps.specs.Steps.{Sound, Spoke, Left}
use Rattle.book.specs.Memory.{Memory}

-- what a call leaves
pub record Recorded : Type 0 where
  pub answer : Returned
  pub memory : Memory

abbrev pub recorded : Returned → Memory → Recorded
recorded a m = record { answer = a; memory = m }

-- a call that answers a, on this memory and leaving that, does this step
abbrev pub Does : (Memory → Recorded) → Returned → (before after : Memory) → Type 0
Does step a before after = recorded a after ≡ step before

-- a call that only sends
abbrev pub only_sent : Memory → Spoke → Recorded
only_sent m d =
    recorded d.answer (record { runs = m.runs; acks = m.acks; stored = m.stored; out = d.out; reps = m.reps })

-- what a handler leaves, beside what it is not lent
abbrev pub of_left : Memory → Left → Recorded
of_left m d = recorded d.answer (record { runs = d.runs; acks = m.acks; stored = m.stored; out = d.out; reps = m.reps })

-- what refusal 1 leaves
pub record Gathering (s : Replica) (m : Memory) : Type 0 where
  pub sound : Sound s m.runs
  pub reports : gathered_ok s.setup s.starts s.reports.rows ≡ true
  pub acks-long : length m.acks ≡ acks_length s.setup
  pub stored-long : length m.stored ≡ stored_length s.setup
