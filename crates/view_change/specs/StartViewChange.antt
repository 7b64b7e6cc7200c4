-- start_view_change, on the state by value and the bytes of the area: the state moves to the view, and StartViewChange goes to all others.
-- Assumes nothing.
use Rattle.std.specs.Prelude.{false, List, [], ℕ, ◌-◌, ◌*◌, ltb, length}
use Rattle.numbers.specs.Words.{when◌then◌else◌}
use Rattle.numbers.specs.Numbers.{over}
use Rattle.numbers.specs.declared.View.{View}
use Rattle.frames.specs.declared.Message.TheVariants.{StartViewChange}
use Rattle.writers.specs.Writers.{to_others}
use Rattle.state.specs.State.{changing_to}
use Rattle.state.specs.Answers.{refusal, completed}
use Rattle.state.specs.declared.Replica.{Replica}
use Rattle.steps.specs.Steps.{Spoke, spoke}
use Rattle.frames.specs.declared.Refusal.TheVariants.{NoRoomForMessages}

-- StartViewChange to all others
abbrev pub calls_length : Replica → ℕ
calls_length s = 12 * (s.setup.n - 1)

abbrev pub calls_of : Replica → View → List ℕ
calls_of s v = to_others s.setup.n s.setup.id (StartViewChange v s.setup.id) []

-- start_view_change from state t; s is the state as it was
unfoldable pub started_change : (s t : Replica) → View → List ℕ → Spoke
started_change s t v out =
    when ltb (length out) (calls_length t) then spoke (refusal NoRoomForMessages s) out else
    spoke (completed (changing_to t v) (calls_length t) 0 false) (over (calls_of t v) out)
