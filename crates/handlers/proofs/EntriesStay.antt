-- Every entry of our log and of each stored one keeps the entry rules, byte for byte, again after every message and every tick. Assumes nothing.
use Rattle.std.specs.Prelude.{Ok, Err}
use Prim.Native.Nat.{ℕ}
use mathlib.Core.Path.{◌≡◌}
use mathlib.Core.List.{List}
use Rattle.numbers.specs.Numbers.{Bytes}
use Rattle.numbers.proofs.WordLaws.{split}
use Rattle.clock.specs.Clock.{tick_of}
use Rattle.clock.specs.declared.Ticked.{Ticked}
use Rattle.clock.specs.declared.Duty.TheVariants.{Follow, Change}
use Rattle.frames.specs.Messages.{carried_bytes}
use Rattle.frames.specs.Refusals.{check_frame}
use Rattle.frames.specs.declared.Message.{Message}
use Rattle.frames.specs.declared.Message.TheVariants.{Request, Prepare, PrepareOk, Commit, GetState, NewState, StartViewChange, DoViewChange, StartView, Recovery, RecoveryResponse}
use Rattle.client_table.specs.declared.Latest.{Latest}
use Rattle.state.specs.declared.Replica.{Replica}
use Rattle.steps.specs.Recorded.{Gathering}
use Rattle.book.specs.Memory.{Memory}
use Rattle.voting.specs.Tick.{change_tick}
use Rattle.normal.specs.Prepare.{prepared_by}
use Rattle.transfer.specs.NewState.{part_of}
use Rattle.handlers.specs.Handlers.{handled, message_step, follow_tick, normal_tick, ask_tick, changing_tick, idle_step}
use Rattle.handlers.proofs.FrameLaws.{request-ok, prepare-ok, new-state-fit, new-state-ok, report-fit, report-ok, start-view-fit, start-view-ok, response-fit, response-ok}
use Rattle.steps.proofs.Ruled.{Has, has, still, SentRuled}
use Rattle.view_change.proofs.ChangeRuled.{start-view-ruled}
use Rattle.normal.proofs.NormalRuled.{request-ruled, prepare-ruled, prepare-ok-ruled, commit-ruled, primary-tick-ruled}
use Rattle.transfer.proofs.TransferRuled.{new-state-ruled, get-state-ruled, transfer-tick-ruled}
use Rattle.do_view_change.proofs.RecordRuled.{do-view-change-ruled}
use Rattle.voting.proofs.VoteRuled.{start-view-change-ruled, next-view-ruled, asking-ruled, repeated-ruled}
use Rattle.recovery.proofs.RecoveryRuled.{response-ruled, recovery-ruled, recovering-ruled}
pub use Rattle.steps.proofs.Ruled.{Ruled, RuledBy}

module _ (s : Replica) (m : Memory) (h : Has s m) where
  -- ---- ticks

  normal-tick-ruled : SentRuled m (normal_tick s m.runs.log m.out)
  unfolding normal_tick follow_tick
  normal-tick-ruled =
      split (SentRuled m) _ _ _ (λ _. primary-tick-ruled s m h) λ _.
      split (SentRuled m) _ _ _ (λ _. next-view-ruled s m h _) λ _. still h

  ask-tick-ruled : (t : Ticked) → SentRuled m (ask_tick s t m.out)
  unfolding ask_tick
  ask-tick-ruled t = split (SentRuled m) _ _ _ (λ _. asking-ruled s m h t.clock) λ _. transfer-tick-ruled s m h t.clock

  changing-tick-ruled : (t : Ticked) → RuledBy (changing_tick s t m)
  unfolding changing_tick change_tick
  changing-tick-ruled t = split RuledBy _ _ _ (λ _. next-view-ruled s m h t.clock) λ _. repeated-ruled s m h t.clock

-- ---- each kind of message

handled-ruled : (x : Message) (s : Replica) (latest : Latest) (frame : List ℕ) (m : Memory) → Gathering s m → Has s m → Bytes frame
    → check_frame s.setup frame ≡ Ok x → RuledBy (handled x s latest frame m)
unfolding handled
handled-ruled (Request e) s latest frame m g h b ok = request-ruled s m h e latest (request-ok s.setup frame e ok b)
handled-ruled (Prepare v o c e) s latest frame m g h b ok =
    prepare-ruled s m h v (prepared_by o c e latest) (prepare-ok s.setup frame v o c e ok b)
handled-ruled (PrepareOk v o r) s latest frame m g h b ok = prepare-ok-ruled s m h v o r
handled-ruled (Commit v c) s latest frame m g h b ok = commit-ruled s m h v c
handled-ruled (GetState r v o) s latest frame m g h b ok = get-state-ruled s m h r v o
handled-ruled (NewState v a z c) s latest frame m g h b ok =
    let f = new-state-fit s.setup frame v a z c ok in
    new-state-ruled s m h v (part_of a z c) (carried_bytes (NewState v a z c) frame) g.sound.commit-le f.0 f.1.0 f.1.1.1
    (new-state-ok s.setup frame v a z c ok)
handled-ruled (StartViewChange v r) s latest frame m g h b ok = start-view-change-ruled s m h v r
handled-ruled (DoViewChange v r l o c) s latest frame m g h b ok =
    let f = report-fit s.setup frame v r l o c ok in
    do-view-change-ruled s m h v r l o c (carried_bytes (DoViewChange v r l o c) frame) f.0 f.1.0 f.1.1.1 (report-ok s.setup frame v r l o c ok)
handled-ruled (StartView v o c) s latest frame m g h b ok =
    let f = start-view-fit s.setup frame v o c ok in
    start-view-ruled s m h v o c (carried_bytes (StartView v o c) frame) f.0 f.1.1 (start-view-ok s.setup frame v o c ok)
handled-ruled (Recovery r x v) s latest frame m g h b ok = recovery-ruled s m h r x v
handled-ruled (RecoveryResponse v x r t) s latest frame m g h b ok =
    let f = response-fit s.setup frame v x r t ok in
    response-ruled s m h v x r t (carried_bytes (RecoveryResponse v x r t) frame) f.0 f.1.0 f.1.1.1 (response-ok s.setup frame v x r t ok)

pub message-ruled : (x : Message) (s : Replica) (latest : Latest) (frame : List ℕ) (m : Memory) → Gathering s m → Ruled s m → Bytes frame
    → check_frame s.setup frame ≡ Ok x → RuledBy (message_step x s latest frame m)
unfolding message_step
message-ruled x s latest frame m h r b ok = split RuledBy _ _ _ (λ _. handled-ruled x s latest frame m h (has h r) b ok) (λ _. still (has h r))

pub idle-ruled : (s : Replica) (m : Memory) → Gathering s m → Ruled s m → RuledBy (idle_step s m)
unfolding idle_step
idle-ruled s m h r =
    let g = has h r in
    split RuledBy _ _ _ (λ _. normal-tick-ruled s m g) λ _.
    split RuledBy _ _ _ (λ _. ask-tick-ruled s m g (tick_of s.setup.timeout Follow s.clock)) λ _.
    split RuledBy _ _ _ (λ _. changing-tick-ruled s m g (tick_of s.setup.timeout Change s.clock)) λ _. recovering-ruled s m g
