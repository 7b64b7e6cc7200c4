-- Demand 1 of the core: a message or a tick that is refused leaves the state and every lent byte as they were, with counts of 0. Assumes nothing.
use Prim.Native.Nat.{ℕ}
use mathlib.Core.Path.{refl}
use mathlib.Core.List.{List}
use Rattle.numbers.proofs.WordLaws.{split}
use Rattle.clock.specs.Clock.{tick_of}
use Rattle.clock.specs.declared.Ticked.{Ticked}
use Rattle.clock.specs.declared.Duty.TheVariants.{Follow, Change}
use Rattle.frames.specs.Messages.{carried_bytes}
use Rattle.frames.specs.declared.Message.{Message}
use Rattle.frames.specs.declared.Message.TheVariants.{Request, Prepare, PrepareOk, Commit, GetState, NewState, StartViewChange, DoViewChange, StartView, Recovery, RecoveryResponse}
use Rattle.client_table.specs.declared.Latest.{Latest}
use Rattle.state.specs.declared.Replica.{Replica}
use Rattle.transfer.specs.Tick.{transfer_tick}
use Rattle.book.specs.Memory.{Memory}
use Rattle.normal.specs.Prepare.{prepared_by}
use Rattle.transfer.specs.NewState.{part_of}
use Rattle.handlers.specs.Handlers.{handled, message_step, follow_tick, normal_tick, ask_tick, changing_tick, idle_step}
use Rattle.steps.proofs.RefusedSteps.{Untouched, Speaks, done, asked-untouched}
use Rattle.normal.proofs.RefusedNormal.{request-untouched, prepare-untouched, prepare-ok-untouched, commit-untouched, primary-tick-untouched}
use Rattle.transfer.proofs.RefusedTransfer.{get-state-untouched, new-state-untouched}
use Rattle.view_change.proofs.RefusedChange.{start-view-untouched}
use Rattle.do_view_change.proofs.RefusedRecord.{do-view-change-untouched}
use Rattle.voting.proofs.RefusedVote.{start-view-change-untouched, next-view-untouched, next-view-asking-untouched, change-tick-untouched}
use Rattle.recovery.proofs.RefusedRecovery.{recovering-untouched, recovery-untouched, response-untouched}

-- ---- on_message

handled-untouched : (x : Message) (s : Replica) (latest : Latest) (frame : List ℕ) (m : Memory) → Untouched s m (handled x s latest frame m)
unfolding handled
handled-untouched (Request e) s latest frame m = request-untouched s m e latest
handled-untouched (Prepare v o c e) s latest frame m = prepare-untouched s m v (prepared_by o c e latest)
handled-untouched (PrepareOk v o r) s latest frame m = prepare-ok-untouched s m v o r
handled-untouched (Commit v c) s latest frame m = commit-untouched s m v c
handled-untouched (GetState r v o) s latest frame m = get-state-untouched s m r v o
handled-untouched (NewState v a z c) s latest frame m = new-state-untouched s m v (part_of a z c) (carried_bytes (NewState v a z c) frame)
handled-untouched (StartViewChange v r) s latest frame m = start-view-change-untouched s m v r
handled-untouched (DoViewChange v r l o c) s latest frame m = do-view-change-untouched s m v r l o c (carried_bytes (DoViewChange v r l o c) frame)
handled-untouched (StartView v o c) s latest frame m = start-view-untouched s m v o c (carried_bytes (StartView v o c) frame)
handled-untouched (Recovery r x v) s latest frame m = recovery-untouched s m r x v
handled-untouched (RecoveryResponse v x r t) s latest frame m = response-untouched s m v x r t (carried_bytes (RecoveryResponse v x r t) frame)

pub message-untouched : (x : Message) (s : Replica) (latest : Latest) (frame : List ℕ) (m : Memory) → Untouched s m (message_step x s latest frame m)
unfolding message_step
message-untouched x s latest frame m =
    split (Untouched s m) _ _ _ (λ _. handled-untouched x s latest frame m) (λ _. done s m refl)

-- ---- on_idle

normal-untouched : (s : Replica) (m : Memory) → Speaks s m (normal_tick s m.runs.log m.out)
unfolding normal_tick follow_tick
normal-untouched s m =
    split (Speaks s m) _ _ _ (λ _. primary-tick-untouched s m) λ _.
    split (Speaks s m) _ _ _ (λ _. next-view-untouched s m _) (λ _. done s m refl)

ask-untouched : (s : Replica) (m : Memory) (t : Ticked) → Speaks s m (ask_tick s t m.out)
unfolding ask_tick transfer_tick
ask-untouched s m t =
    split (Speaks s m) _ _ _ (λ _. next-view-asking-untouched s m t.clock) (λ _. asked-untouched s m _ _)

pub idle-untouched : (s : Replica) (m : Memory) → Untouched s m (idle_step s m)
unfolding idle_step changing_tick
idle-untouched s m =
    let t = tick_of s.setup.timeout Change s.clock in
    split (Untouched s m) _ _ _ (λ _. normal-untouched s m) λ _.
    split (Untouched s m) _ _ _ (λ _. ask-untouched s m (tick_of s.setup.timeout Follow s.clock)) λ _.
    split (Untouched s m) _ _ _ (λ _. change-tick-untouched s m t.clock t.up) (λ _. recovering-untouched s m)
