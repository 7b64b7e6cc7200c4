-- on_get_state, on the state by value and the bytes of log and area. Assumes nothing.
use Rattle.std.specs.Prelude.{◌≡◌, Bool, true, false, not, List, ℕ, ◌+◌, ◌-◌, ◌*◌, ◌≤◌, ltb, leb, eqb, length, take, drop}
use Rattle.numbers.specs.Words.{when◌then◌else◌}
use Rattle.numbers.specs.Numbers.{over}
use Rattle.numbers.specs.declared.View.{View}
use Rattle.numbers.specs.declared.Op.{Op}
use Rattle.entries.specs.Places.{entry_place}
use Rattle.config.specs.Setup.{setup_ok}
use Rattle.frames.specs.declared.Message.TheVariants.{NewState}
use Rattle.writers.specs.Writers.{encode}
use Rattle.state.specs.Statuses.{is_normal}
use Rattle.state.specs.Answers.{refusal, completed, quiet}
use Rattle.state.specs.Lengths.{log_length}
use Rattle.state.specs.declared.Replica.{Replica}
use Rattle.steps.specs.Steps.{Spoke, spoke}
use Rattle.frames.specs.declared.Refusal.TheVariants.{NoRoomForMessages}

-- what refusal 1 leaves, of the log
pub record Reading (s : Replica) (log : ℕ) : Type 0 where
  pub sized : setup_ok s.setup ≡ true
  pub op_le : s.op.0 ≤ s.setup.room
  pub log-long : log ≡ log_length s.setup

-- in Normal, in our view, from an op that we have
unfoldable pub answers : Replica → View → Op → Bool
answers s v o =
    when not (is_normal s.status) then false else
    when not (eqb v.0 s.view.0) then false else
    leb o.0 s.op.0

-- a NewState of our log after op o
abbrev pub new_state_length : Replica → Op → ℕ
new_state_length s o = 23 + 32 * (s.op.0 - o.0)

-- on_get_state
unfoldable pub get_state_step : Replica → (from : ℕ) → View → Op → (log out : List ℕ) → Spoke
get_state_step s from v o log out =
    when not (answers s v o) then spoke (quiet s) out else
    when ltb (length out) (new_state_length s o) then spoke (refusal NoRoomForMessages s) out else
    spoke
    (completed s (new_state_length s o) 0 false)
    (over (encode from (NewState v o s.op s.commit) (take (32 * (s.op.0 - o.0)) (drop (entry_place o.0) log))) out)
