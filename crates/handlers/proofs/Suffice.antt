-- No message and no tick is refused for want of room in areas of `out_length` and `reps_length` bytes, whatever the memory that passes refusal 1.
-- Assumes nothing.
use Rattle.std.specs.Prelude.{Ok, Err}
use Prim.Native.Nat.{ℕ}
use mathlib.Core.Path.{◌≡◌}
use mathlib.Core.List.{List}
use lib.ListN.{length}
use Rattle.numbers.proofs.WordLaws.{split}
use Rattle.clock.specs.Clock.{tick_of}
use Rattle.clock.specs.declared.Ticked.{Ticked}
use Rattle.clock.specs.declared.Duty.TheVariants.{Follow, Change}
use Rattle.frames.specs.Messages.{carried_bytes}
use Rattle.frames.specs.Refusals.{check_frame}
use Rattle.frames.specs.declared.Message.{Message}
use Rattle.frames.specs.declared.Message.TheVariants.{Request, Prepare, PrepareOk, Commit, GetState, NewState, StartViewChange, DoViewChange, StartView, Recovery, RecoveryResponse}
use Rattle.client_table.specs.declared.Latest.{Latest}
use Rattle.state.specs.declared.Replica.{Replica}
use Rattle.steps.specs.Steps.{Spoke}
use Rattle.steps.specs.Recorded.{Recorded, Gathering}
use Rattle.steps.proofs.AreaLaws.{Answers, done}
use Rattle.book.specs.Memory.{Memory}
use Rattle.normal.specs.Prepare.{prepared_by}
use Rattle.transfer.specs.NewState.{part_of}
use Rattle.handlers.specs.Handlers.{handled, message_step, follow_tick, normal_tick, ask_tick, changing_tick, idle_step}
use Rattle.handlers.proofs.FrameLaws.{call-fit, report-fit}
use Rattle.normal.proofs.NormalSuffices.{request-suffices, prepare-suffices, prepare-ok-suffices, commit-suffices, primary-tick-suffices}
use Rattle.transfer.proofs.TransferSuffices.{get-state-suffices, new-state-suffices, transfer-tick-suffices}
use Rattle.view_change.proofs.ChangeSuffices.{start-view-suffices}
use Rattle.do_view_change.proofs.RecordSuffices.{do-view-change-suffices}
use Rattle.voting.proofs.VoteSuffices.{start-view-change-suffices, next-view-suffices, next-view-asking-suffices, change-tick-suffices}
use Rattle.recovery.proofs.RecoverySuffices.{recovering-suffices, recovery-suffices, response-suffices}
use Rattle.state.specs.Answers.{code_of}

module _ (s : Replica) (m : Memory) (h : Gathering s m) where
  abbrev a : ℕ
  a = length m.out

  abbrev b : ℕ
  b = length m.reps

  abbrev Enough : Recorded → Type 0
  Enough d = Answers s.setup a b (code_of d.answer)

  -- ---- on_message

  handled-suffices : (x : Message) (latest : Latest) (frame : List ℕ) → check_frame s.setup frame ≡ Ok x → Enough (handled x s latest frame m)
  unfolding handled
  handled-suffices (Request e) latest frame ok =
      request-suffices s m.runs h.sound e latest m.runs.log m.acks m.out m.reps
  handled-suffices (Prepare v o c e) latest frame ok = prepare-suffices s m.runs h.sound m.out b v (prepared_by o c e latest)
  handled-suffices (PrepareOk v o r) latest frame ok =
      prepare-ok-suffices s m.runs h.sound a o r m.runs.log m.runs.money m.acks m.reps v
  handled-suffices (Commit v c) latest frame ok = commit-suffices s m.runs h.sound m.out b v c
  handled-suffices (GetState r v o) latest frame ok = get-state-suffices s m.runs h.sound m.out b r v o m.runs.log
  handled-suffices (NewState v i z c) latest frame ok =
      new-state-suffices s m.runs h.sound m.out b v (part_of i z c) (carried_bytes (NewState v i z c) frame)
  handled-suffices (StartViewChange v r) latest frame ok = start-view-change-suffices s m h v r (call-fit s.setup frame v r ok)
  handled-suffices (DoViewChange v r l o c) latest frame ok =
      do-view-change-suffices s m h v r l o c (carried_bytes (DoViewChange v r l o c) frame) (report-fit s.setup frame v r l o c ok)
  handled-suffices (StartView v o c) latest frame ok =
      start-view-suffices m.out b s h.sound.sized v o c (carried_bytes (StartView v o c) frame) m.runs m.acks
  handled-suffices (Recovery r x v) latest frame ok = recovery-suffices s h.sound.sized m.out b h.sound.op_le r x v m.runs.log
  handled-suffices (RecoveryResponse v x r t) latest frame ok =
      response-suffices s a b v x r t (carried_bytes (RecoveryResponse v x r t) frame) m.runs m.stored

  pub message-suffices : (x : Message) (latest : Latest) (frame : List ℕ) → check_frame s.setup frame ≡ Ok x
      → Answers s.setup (length m.out) (length m.reps) (code_of (message_step x s latest frame m).answer)
  unfolding message_step
  message-suffices x latest frame ok = split Enough _ _ _ (λ _. handled-suffices x latest frame ok) (λ _. done)

  -- ---- on_idle

  abbrev Speaks : Spoke → Type 0
  Speaks d = Answers s.setup a b (code_of d.answer)

  normal-suffices : Speaks (normal_tick s m.runs.log m.out)
  unfolding normal_tick follow_tick
  normal-suffices =
      split Speaks _ _ _ (λ _. primary-tick-suffices s m.runs h.sound m.out b m.runs.log) λ _.
      split Speaks _ _ _ (λ _. next-view-suffices s m h _) (λ _. done)

  ask-suffices : (t : Ticked) → Speaks (ask_tick s t m.out)
  unfolding ask_tick
  ask-suffices t =
      split Speaks _ _ _ (λ _. next-view-asking-suffices s m h t.clock)
      (λ _. transfer-tick-suffices s m.runs h.sound m.out b t.clock)

  pub idle-suffices : Answers s.setup (length m.out) (length m.reps) (code_of (idle_step s m).answer)
  unfolding idle_step changing_tick
  idle-suffices =
      let t = tick_of s.setup.timeout Change s.clock in
      split Enough _ _ _ (λ _. normal-suffices) λ _.
      split Enough _ _ _ (λ _. ask-suffices (tick_of s.setup.timeout Follow s.clock)) λ _.
      split Enough _ _ _ (λ _. change-tick-suffices s m h t.clock t.up) λ _.
      recovering-suffices s h.sound.sized m.out b
