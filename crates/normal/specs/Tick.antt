-- on_idle in Normal, on the state by value and the bytes of log and area: a primary's heartbeat, then a Prepare for every op that isn't committed;
-- and a backup's, whose wait isn't over. Assumes nothing.
use Rattle.std.specs.Prelude.{◌≡◌, true, false, List, [], ◌++◌, ℕ, zero, suc, ◌+◌, ◌-◌, ◌*◌, ◌≤◌, ltb, length}
use Rattle.numbers.specs.Words.{when◌then◌else◌}
use Rattle.numbers.specs.Numbers.{over}
use Rattle.entries.specs.Places.{entry_in}
use Rattle.config.specs.Setup.{setup_ok}
use Rattle.clock.specs.Clock.{tick_of}
use Rattle.clock.specs.declared.Clock.{Clock}
use Rattle.clock.specs.declared.Duty.TheVariants.{Lead}
use Rattle.frames.specs.declared.Message.TheVariants.{Prepare, Commit}
use Rattle.writers.specs.Writers.{to_others}
use Rattle.state.specs.State.{with_clock}
use Rattle.state.specs.Answers.{refusal, completed, quiet}
use Rattle.state.specs.Lengths.{log_length}
use Rattle.state.specs.declared.Returned.{Returned}
use Rattle.state.specs.declared.Replica.{Replica}
use Rattle.steps.specs.Steps.{Spoke, spoke}
use Rattle.frames.specs.declared.Refusal.TheVariants.{NoRoomForMessages}

-- what refusal 1 leaves, of the log
pub record Leading (s : Replica) (log : ℕ) : Type 0 where
  pub sized : setup_ok s.setup ≡ true
  pub commit-le : s.commit.0 ≤ s.op.0
  pub op_le : s.op.0 ≤ s.setup.room
  pub log-long : log ≡ log_length s.setup

-- Commit to all others
abbrev pub heartbeat_length : Replica → ℕ
heartbeat_length s = 15 * (s.setup.n - 1)

-- the Prepares of k ops, to all others
abbrev pub prepares_length : Replica → ℕ → ℕ
prepares_length s k = 51 * (s.setup.n - 1) * k

-- the heartbeat
abbrev pub heartbeat_of : Replica → List ℕ
heartbeat_of s = to_others s.setup.n s.setup.id (Commit s.view s.commit) []

-- the Prepare of the op after the first i, to all others
unfoldable pub prepares_to : Replica → ℕ → List ℕ → List ℕ
prepares_to s i log =
    to_others s.setup.n s.setup.id (Prepare s.view (record { 0 = i + 1 }) s.commit (entry_in log i)) []

-- of the first k ops that aren't committed, in order
unfoldable pub prepares_of : Replica → List ℕ → ℕ → List ℕ
prepares_of s log zero = []
prepares_of s log (suc k) = prepares_of s log k ++ prepares_to s (s.commit.0 + k) log

-- on_idle of a Normal primary
unfoldable pub primary_tick : Replica → (log out : List ℕ) → Spoke
primary_tick s log out =
    when ltb (length out) (heartbeat_length s + prepares_length s (s.op.0 - s.commit.0)) then spoke (refusal NoRoomForMessages s) out else
    spoke
    (completed
    (with_clock s (tick_of s.setup.timeout Lead s.clock).clock)
    (heartbeat_length s + prepares_length s (s.op.0 - s.commit.0))
    0
    false)
    (over (heartbeat_of s ++ prepares_of s log (s.op.0 - s.commit.0)) out)

-- on_idle of a Normal backup whose wait isn't over; c is the clock after it
abbrev pub backup_tick : Replica → Clock → Returned
backup_tick s c = quiet (with_clock s c)
