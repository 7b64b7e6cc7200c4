-- on_start_view_change and maybe_send_do_view_change, on the state by value and the bytes of the lent runs: DoViewChange goes out once, as soon
-- as StartViewChange is held from n/2 distinct replica ids, to which the own id never comes. Assumes nothing.
use Rattle.std.specs.Prelude.{Bool, true, false, not, List, ℕ, ◌/◌, ltb, leb, length}
use Rattle.config.specs.Replicas.{count_below}
use Rattle.numbers.specs.Words.{when◌then◌else◌}
use Rattle.numbers.specs.Numbers.{over}
use Rattle.numbers.specs.declared.View.{View}
use Rattle.state.specs.State.{leads, changing_to, with_start, with_sent}
use Rattle.state.specs.Statuses.{is_normal, is_changing}
use Rattle.state.specs.Answers.{refusal, completed, quiet}
use Rattle.state.specs.declared.Replica.{Replica}
use Rattle.steps.specs.Steps.{Spoke, spoke}
use Rattle.view_change.specs.StartView.{sent_start_view}
use Rattle.do_view_change.specs.Begin.{calls_first, first_length}
use Rattle.steps.specs.Recorded.{Recorded, recorded, only_sent}
use Rattle.do_view_change.specs.Record.{send_step}
use Rattle.book.specs.Memory.{Memory}
use Rattle.frames.specs.declared.Refusal.TheVariants.{NoRoomForMessages}

-- only what goes out first, from state t; s is the state as it was
unfoldable pub sent_first : (s t : Replica) (first : Bool) → List ℕ → Spoke
sent_first s t first out =
    when ltb (length out) (first_length first t) then spoke (refusal NoRoomForMessages s) out else
    spoke (completed t (first_length first t) 0 false) (over (calls_first first t) out)

-- whether our DoViewChange is report_due
unfoldable pub report_due : Replica → Bool
report_due t =
    when not (is_changing t.status) then false else
    when t.catching then false else
    when t.sent then false else
    leb (t.setup.n / 2) (count_below t.setup.n t.starts)

-- maybe_send_do_view_change
unfoldable pub maybe_step : (s t : Replica) (first : Bool) → Memory → Recorded
maybe_step s t first m =
    when report_due t then send_step s (with_sent t) first m else
    only_sent m (sent_first s t first m.out)

-- on_start_view_change of our view: counted while we change to it; a Normal primary sends StartView to one who missed it
unfoldable pub same_view : Replica → (r : ℕ) → Memory → Recorded
same_view s r m =
    when is_changing s.status then maybe_step s (with_start s r) false m else
    when not (is_normal s.status) then recorded (quiet s) m else
    when leads s then only_sent m (sent_start_view s r m.runs.log m.out) else
    recorded (quiet s) m

-- on_start_view_change of view v, from replica r
unfoldable pub start_view_change_step : Replica → View → (r : ℕ) → Memory → Recorded
start_view_change_step s v r m =
    when ltb v.0 s.view.0 then recorded (quiet s) m else
    when ltb s.view.0 v.0 then maybe_step s (with_start (changing_to s v) r) true m else
    same_view s r m
