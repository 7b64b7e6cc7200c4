-- No message and no tick leaves anything in the area for replies but Replies with outcomes of 1 to 6, with their exact count, whatever the memory that
-- passes refusal 1; of a Request that is answered again, where the reply that is handed in has such an outcome. Assumes nothing.
use Rattle.std.specs.Prelude.{Ok, Err}
use Prim.Native.Nat.{ℕ}
use mathlib.Core.Path.{◌≡◌, refl}
use mathlib.Core.List.{List}
use Rattle.numbers.proofs.WordLaws.{split}
use Rattle.clock.specs.Clock.{tick_of}
use Rattle.clock.specs.declared.Ticked.{Ticked}
use Rattle.clock.specs.declared.Duty.TheVariants.{Follow, Change}
use Rattle.frames.specs.Messages.{carried_bytes}
use Rattle.frames.specs.Refusals.{check_frame}
use Rattle.frames.specs.declared.Message.{Message}
use Rattle.frames.specs.declared.Message.TheVariants.{Request, Prepare, PrepareOk, Commit, GetState, NewState, StartViewChange, DoViewChange, StartView, Recovery, RecoveryResponse}
use Rattle.client_table.specs.declared.Latest.{Latest}
use Rattle.state.specs.declared.Replica.{Replica}
use Rattle.steps.specs.Recorded.{Gathering}
use Rattle.steps.specs.Replying.{Replying}
use Rattle.steps.proofs.ReplyLaws.{silent}
use Rattle.steps.proofs.SilentSteps.{Mute, still}
use Rattle.book.specs.Memory.{Memory}
use Rattle.normal.specs.Prepare.{prepared_by}
use Rattle.normal.specs.Telling.{ToldOk}
use Rattle.transfer.specs.NewState.{part_of}
use Rattle.handlers.specs.Handlers.{handled, message_step, follow_tick, normal_tick, ask_tick, changing_tick, idle_step}
use Rattle.handlers.proofs.FrameLaws.{call-fit, report-fit}
use Rattle.normal.proofs.NormalReplies.{request-replies, prepare-ok-replies, prepare-mute, commit-mute, primary-tick-mute}
use Rattle.transfer.proofs.TransferReplies.{get-state-mute, new-state-mute, transfer-tick-mute}
use Rattle.view_change.proofs.ChangeReplies.{start-view-mute}
use Rattle.do_view_change.proofs.RecordReplies.{Answers, do-view-change-replies}
use Rattle.voting.proofs.VoteReplies.{start-view-change-replies, next-view-mute, next-view-asking-mute, change-tick-replies}
use Rattle.recovery.proofs.RecoveryReplies.{recovering-mute, recovery-mute, response-mute}
use Rattle.state.specs.Answers.{replies_written}

module _ (s : Replica) (m : Memory) (h : Gathering s m) where
  -- ---- on_message

  handled-replies : (x : Message) (latest : Latest) (frame : List ℕ) → check_frame s.setup frame ≡ Ok x → ToldOk latest
      → Answers m (handled x s latest frame m)
  unfolding handled
  handled-replies (Request e) latest frame ok told = request-replies s e latest told m.runs.log m.acks m.out m.reps
  handled-replies (Prepare v o c e) latest frame ok told = still _ (prepare-mute s m.runs m.out v (prepared_by o c e latest))
  handled-replies (PrepareOk v o r) latest frame ok told = prepare-ok-replies s m.runs h.sound o r m.acks m.reps v
  handled-replies (Commit v c) latest frame ok told = still _ (commit-mute s m.runs m.out v c)
  handled-replies (GetState r v o) latest frame ok told = still _ (get-state-mute s m.out r v o m.runs.log)
  handled-replies (NewState v a z c) latest frame ok told =
      still _ (new-state-mute s m.out v (part_of a z c) (carried_bytes (NewState v a z c) frame) m.runs)
  handled-replies (StartViewChange v r) latest frame ok told = start-view-change-replies s m h v r (call-fit s.setup frame v r ok)
  handled-replies (DoViewChange v r l o c) latest frame ok told =
      do-view-change-replies s m h v r l o c (carried_bytes (DoViewChange v r l o c) frame) (report-fit s.setup frame v r l o c ok)
  handled-replies (StartView v o c) latest frame ok told =
      still _ (start-view-mute s v o c (carried_bytes (StartView v o c) frame) m.runs m.acks m.out)
  handled-replies (Recovery r x v) latest frame ok told = still _ (recovery-mute s r x v m.runs.log m.out)
  handled-replies (RecoveryResponse v x r t) latest frame ok told =
      still _ (response-mute s v x r t (carried_bytes (RecoveryResponse v x r t) frame) m.runs m.stored)

  pub message-replies : (x : Message) (latest : Latest) (frame : List ℕ) → check_frame s.setup frame ≡ Ok x → ToldOk latest
      → Replying m.reps (message_step x s latest frame m).memory.reps (replies_written (message_step x s latest frame m).answer)
  unfolding message_step
  message-replies x latest frame ok told = split (Answers m) _ _ _ (λ _. handled-replies x latest frame ok told) (λ _. silent)

  -- ---- on_idle

  normal-mute : Mute (normal_tick s m.runs.log m.out)
  unfolding normal_tick follow_tick
  normal-mute =
      split Mute _ _ _ (λ _. primary-tick-mute s m.runs.log m.out) λ _.
      split Mute _ _ _ (λ _. next-view-mute s m h _) (λ _. refl)

  ask-mute : (t : Ticked) → Mute (ask_tick s t m.out)
  unfolding ask_tick
  ask-mute t = split Mute _ _ _ (λ _. next-view-asking-mute s m h t.clock) (λ _. transfer-tick-mute s m.out t.clock)

  pub idle-replies : Replying m.reps (idle_step s m).memory.reps (replies_written (idle_step s m).answer)
  unfolding idle_step changing_tick
  idle-replies =
      let t = tick_of s.setup.timeout Change s.clock in
      split (Answers m) _ _ _ (λ _. still _ normal-mute) λ _.
      split (Answers m) _ _ _ (λ _. still _ (ask-mute (tick_of s.setup.timeout Follow s.clock))) λ _.
      split (Answers m) _ _ _ (λ _. change-tick-replies s m h t.clock t.up) (λ _. still _ (recovering-mute s m.out))
