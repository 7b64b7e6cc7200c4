-- Document 02, order 4: the takings, answered from the sum that is kept in the state. The call takes the state alone, in every status, and changes nothing.
-- Assumes nothing.
use Rattle.std.specs.Prelude.{ℕ, Result, Ok, Err}
use Rattle.numbers.specs.Words.{when◌then◌else◌}
use Rattle.state.specs.declared.Replica.{Replica}
use Rattle.outside.specs.Sound.{state_sound}
use Rattle.frames.specs.declared.Refusal.{Refusal}
use Rattle.frames.specs.declared.Refusal.TheVariants.{OutOfRange}

-- takings: the sum in cents, or refusal 1
unfoldable pub takings_call : Replica → Result ℕ Refusal
takings_call s = when state_sound s then Ok s.takings else Err OutOfRange
