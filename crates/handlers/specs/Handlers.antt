-- on_message, its match, and on_idle, on the state by value and the bytes of all lent runs but the client table, whose row of the client is handed in
-- by value. A frame comes here after refusals 1 to 6 on it alone. Assumes nothing.
use Rattle.std.specs.Prelude.{◌≡◌, Bool, true, false, not, List, ℕ}
use Rattle.numbers.specs.Words.{when◌then◌else◌}
use Rattle.numbers.specs.declared.View.{View}
use Rattle.clock.specs.Clock.{tick_of}
use Rattle.clock.specs.declared.Ticked.{Ticked}
use Rattle.clock.specs.declared.Duty.TheVariants.{Follow, Change}
use Rattle.frames.specs.Messages.{carried_of, carried_bytes}
use Rattle.frames.specs.Looks.{looks_at}
use Rattle.frames.specs.declared.Message.{Message}
use Rattle.frames.specs.declared.Message.TheVariants.{Request, Prepare, PrepareOk, Commit, GetState, NewState, StartViewChange, DoViewChange, StartView, Recovery, RecoveryResponse}
use Rattle.client_table.specs.declared.Latest.{Latest}
use Rattle.state.specs.State.{leads}
use Rattle.state.specs.Statuses.{is_normal, is_transfer, is_changing}
use Rattle.state.specs.Answers.{quiet}
use Rattle.state.specs.declared.Replica.{Replica}
use Rattle.steps.specs.Steps.{Spoke, spoke}
use Rattle.steps.specs.Recorded.{Recorded, recorded, only_sent, of_left}
use Rattle.normal.specs.Request.{of_served, request_step}
use Rattle.normal.specs.Prepare.{prepared_by, prepare_step}
use Rattle.normal.specs.PrepareOk.{of_counted, prepare_ok_step}
use Rattle.normal.specs.Commit.{commit_step}
use Rattle.normal.specs.Tick.{primary_tick, backup_tick}
use Rattle.transfer.specs.GetState.{get_state_step}
use Rattle.transfer.specs.NewState.{part_of, new_state_step}
use Rattle.transfer.specs.Tick.{transfer_tick}
use Rattle.view_change.specs.StartView.{of_joined, start_view_step}
use Rattle.do_view_change.specs.Record.{do_view_change_step}
use Rattle.book.specs.Memory.{Memory}
use Rattle.voting.specs.Votes.{start_view_change_step}
use Rattle.voting.specs.Tick.{next_view, next_view_asking, change_tick}
use Rattle.recovery.specs.Recovery.{of_collected, recovering_tick, recovery_step, response_step}

-- on_message, its match
unfoldable pub handled : Message → Replica → Latest → (frame : List ℕ) → Memory → Recorded
handled (Request e) s latest frame m = of_served m (request_step s e latest m.runs.log m.acks m.out m.reps)
handled (Prepare v o c e) s latest frame m = of_left m (prepare_step s v (prepared_by o c e latest) m.runs m.out)
handled (PrepareOk v o r) s latest frame m = of_counted m (prepare_ok_step s v o r m.runs.log m.runs.money m.acks m.reps)
handled (Commit v c) s latest frame m = of_left m (commit_step s v c m.runs m.out)
handled (GetState r v o) s latest frame m = only_sent m (get_state_step s r v o m.runs.log m.out)
handled (NewState v a z c) s latest frame m = of_left m (new_state_step s v (part_of a z c) (carried_bytes (NewState v a z c) frame) m.runs m.out)
handled (StartViewChange v r) s latest frame m = start_view_change_step s v r m
handled (DoViewChange v r l o c) s latest frame m = do_view_change_step s v r l o c (carried_bytes (DoViewChange v r l o c) frame) m
handled (StartView v o c) s latest frame m = of_joined m (start_view_step s v o c (carried_bytes (StartView v o c) frame) m.runs m.acks m.out)
handled (Recovery r x v) s latest frame m = only_sent m (recovery_step s r x v m.runs.log m.out)
handled (RecoveryResponse v x r t) s latest frame m = of_collected m (response_step s v x r t (carried_bytes (RecoveryResponse v x r t) frame) m.runs m.stored)

-- on_message: a kind that the status doesn't look at is ignored
unfoldable pub message_step : Message → Replica → Latest → (frame : List ℕ) → Memory → Recorded
message_step x s latest frame m =
    when looks_at s.status (carried_of x).kind then handled x s latest frame m else
    recorded (quiet s) m

-- on_idle of a Normal backup, t being its clock's tick
unfoldable pub follow_tick : Replica → Ticked → List ℕ → Spoke
follow_tick s t out = when t.up then next_view s t.clock out else spoke (backup_tick s t.clock) out

-- in Normal
unfoldable pub normal_tick : Replica → (log out : List ℕ) → Spoke
normal_tick s log out =
    when leads s then primary_tick s log out else
    follow_tick s (tick_of s.setup.timeout Follow s.clock) out

-- in StateTransfer
unfoldable pub ask_tick : Replica → Ticked → List ℕ → Spoke
ask_tick s t out = when t.up then next_view_asking s t.clock out else transfer_tick s t.clock out

-- in ViewChange
unfoldable pub changing_tick : Replica → Ticked → Memory → Recorded
changing_tick s t m = change_tick s t.clock t.up m

-- on_idle
unfoldable pub idle_step : Replica → Memory → Recorded
idle_step s m =
    when is_normal s.status then only_sent m (normal_tick s m.runs.log m.out) else
    when is_transfer s.status then only_sent m (ask_tick s (tick_of s.setup.timeout Follow s.clock) m.out) else
    when is_changing s.status then changing_tick s (tick_of s.setup.timeout Change s.clock) m else
    only_sent m (recovering_tick s m.out)
