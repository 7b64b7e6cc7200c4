-- on_idle where the wait is over, and in ViewChange, on the state by value and the bytes of the lent runs; c is the clock after the tick. Refusal 8
-- where it would move past view 4,294,967,295. Assumes nothing.
use Rattle.std.specs.Prelude.{Bool, true, false, List, [], ◌++◌, ℕ, ◌+◌, ltb, leb, length}
use Rattle.numbers.specs.Words.{when◌then◌else◌}
use Rattle.numbers.specs.Numbers.{over}
use Rattle.numbers.specs.declared.View.{View}
use Rattle.config.specs.Setup.{primary_of}
use Rattle.clock.specs.declared.Clock.{Clock}
use Rattle.frames.specs.declared.Message.TheVariants.{GetState}
use Rattle.writers.specs.Writers.{encode}
use Rattle.state.specs.State.{with_clock, changing_to}
use Rattle.state.specs.Answers.{refusal, completed}
use Rattle.state.specs.declared.Replica.{Replica}
use Rattle.steps.specs.Steps.{Spoke, spoke, asked_for_state}
use Rattle.view_change.specs.StartViewChange.{calls_length, calls_of, started_change}
use Rattle.steps.specs.Recorded.{Recorded, only_sent}
use Rattle.do_view_change.specs.Record.{send_step}
use Rattle.book.specs.Memory.{Memory}
use Rattle.voting.specs.Votes.{sent_first}
use Rattle.frames.specs.declared.Refusal.TheVariants.{LastView, NoRoomForMessages}

-- the view after ours
abbrev pub view_after : Replica → View
view_after s = record { 0 = s.view.0 + 1 }

-- the last view of all
unfoldable pub in_last_view : Replica → Bool
in_last_view s = leb 4294967295 s.view.0

-- in Normal and in ViewChange
unfoldable pub next_view : Replica → Clock → List ℕ → Spoke
next_view s c out =
    when in_last_view s then spoke (refusal LastView s) out else
    started_change s (with_clock s c) (view_after s) out

-- in StateTransfer: GetState first, in the view that is left
unfoldable pub asked_and_called : Replica → List ℕ
asked_and_called s = encode (primary_of s.setup.n s.view) (GetState s.setup.id s.view s.op) [] ++ calls_of s (view_after s)

unfoldable pub next_view_asking : Replica → Clock → List ℕ → Spoke
next_view_asking s c out =
    when in_last_view s then spoke (refusal LastView s) out else
    when ltb (length out) (16 + calls_length s) then spoke (refusal NoRoomForMessages s) out else
    spoke
    (completed (changing_to (with_clock s c) (view_after s)) (16 + calls_length s) 0 false)
    (over (asked_and_called s) out)

-- in ViewChange, where the wait isn't over: what was sent is sent again. A primary-to-be records its own DoViewChange again.
unfoldable pub repeated : Replica → Clock → Memory → Recorded
repeated s c m =
    when s.catching then only_sent m (asked_for_state s (with_clock s c) s.commit m.out) else
    when s.sent then send_step s (with_clock s c) true m else
    only_sent m (sent_first s (with_clock s c) true m.out)

-- on_idle in ViewChange; `up`: the wait is over
unfoldable pub change_tick : Replica → Clock → (up : Bool) → Memory → Recorded
change_tick s c up m = when up then only_sent m (next_view s c m.out) else repeated s c m
