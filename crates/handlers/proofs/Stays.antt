-- What refusal 1 asks holds again after every message and every tick: commit ≤ op number ≤ L, of our log and of each stored one, and each run has its
-- length. Assumes nothing.
use Rattle.std.specs.Prelude.{Ok, Err}
use Prim.Native.Nat.{ℕ}
use mathlib.Core.Path.{◌≡◌, refl, sym, ap, ◌∙◌, subst}
use mathlib.Core.Bool.{true}
use mathlib.Core.List.{List}
use lib.ListN.{take}
use Rattle.numbers.proofs.WordLaws.{split}
use Rattle.config.specs.declared.Setup.{Setup}
use Rattle.clock.specs.Clock.{tick_of}
use Rattle.clock.specs.declared.Clock.{Clock}
use Rattle.clock.specs.declared.Ticked.{Ticked}
use Rattle.clock.specs.declared.Duty.TheVariants.{Follow, Change}
use Rattle.frames.specs.Messages.{carried_bytes}
use Rattle.frames.specs.Refusals.{check_frame}
use Rattle.frames.specs.declared.Message.{Message}
use Rattle.frames.specs.declared.Message.TheVariants.{Request, Prepare, PrepareOk, Commit, GetState, NewState, StartViewChange, DoViewChange, StartView, Recovery, RecoveryResponse}
use Rattle.client_table.specs.declared.Latest.{Latest}
use Rattle.state.specs.State.{with_clock}
use Rattle.state.specs.Lengths.{acks_length, stored_length}
use Rattle.state.specs.declared.Replica.{Replica}
use Rattle.state.specs.Sound.{gathered_ok}
use Rattle.steps.specs.Steps.{Spoke}
use Rattle.normal.specs.Tick.{primary_tick}
use Rattle.transfer.specs.Tick.{transfer_tick}
use Rattle.steps.specs.Recorded.{Recorded, Gathering}
use Rattle.book.specs.Memory.{Memory}
use Rattle.normal.specs.Prepare.{prepared_by}
use Rattle.transfer.specs.NewState.{part_of}
use Rattle.handlers.specs.Handlers.{handled, message_step, follow_tick, normal_tick, ask_tick, changing_tick, idle_step}
use Rattle.handlers.proofs.FrameLaws.{call-fit, new-state-fit, report-fit, start-view-fit, response-fit}
use Rattle.steps.proofs.Held.{Held, Kept, as_it_was, moves, asked-held, sent-kept, left-kept, still_kept}
use Rattle.normal.proofs.NormalStays.{commit-held, prepare-held, request-kept, prepare-ok-kept}
use Rattle.transfer.proofs.TransferStays.{new-state-held, get-state-held}
use Rattle.view_change.proofs.ChangeStays.{start-view-kept}
use Rattle.do_view_change.proofs.RecordStays.{do-view-change-kept}
use Rattle.voting.proofs.VoteStays.{start-view-change-kept, next-view-held, next-view-asking-held, change-tick-kept}
use Rattle.recovery.proofs.RecoveryStays.{recovering-held, recovery-held, response-kept}

pub record Stays (s : Replica) (d : Recorded) : Type 0 where
  pub gathering : Gathering d.answer.state d.memory
  pub setup : d.answer.state.setup ≡ s.setup

stays : (s : Replica) (d : Recorded) → Kept s.setup d → Stays s d
stays s d k =
    let e = k.held.setup in
    record {
      gathering =
          record {
            sound = k.held.sound;
            reports =
                subst (λ (u : Setup). gathered_ok u d.answer.state.starts d.answer.state.reports.rows ≡ true) (sym e) k.held.reports;
            acks-long = k.acks-long ∙ sym (ap acks_length e);
            stored-long = k.stored-long ∙ sym (ap stored_length e);
          };
      setup = e;
    }

module _ (s : Replica) (m : Memory) (h : Gathering s m) where
  abbrev here : Held s.setup s m.runs
  here = as_it_was h

  abbrev Speaks : Spoke → Type 0
  Speaks d = Held s.setup d.answer.state m.runs

  -- ---- on_message

  handled-kept : (x : Message) (latest : Latest) (frame : List ℕ) → check_frame s.setup frame ≡ Ok x
      → Kept s.setup (handled x s latest frame m)
  unfolding handled
  handled-kept (Request e) latest frame ok = request-kept s m h e latest
  handled-kept (Prepare v o c e) latest frame ok = left-kept h _ (prepare-held s m.runs here m.out v (prepared_by o c e latest))
  handled-kept (PrepareOk v o r) latest frame ok = prepare-ok-kept s m h v o r
  handled-kept (Commit v c) latest frame ok = left-kept h _ (commit-held s m.runs here m.out v c)
  handled-kept (GetState r v o) latest frame ok = sent-kept h _ (get-state-held here r v o m.runs.log m.out)
  handled-kept (NewState v a z c) latest frame ok =
      let f = new-state-fit s.setup frame v a z c ok in
      left-kept h _
      (new-state-held s m.runs here m.out v (part_of a z c) (carried_bytes (NewState v a z c) frame)
      (record { start-le = f.0; end-le = f.1.0; commit-le = f.1.1.0 }) f.1.1.1)
  handled-kept (StartViewChange v r) latest frame ok = start-view-change-kept s m h v r (call-fit s.setup frame v r ok)
  handled-kept (DoViewChange v r l o c) latest frame ok =
      do-view-change-kept s m h v r l o c (carried_bytes (DoViewChange v r l o c) frame) (report-fit s.setup frame v r l o c ok)
  handled-kept (StartView v o c) latest frame ok =
      let f = start-view-fit s.setup frame v o c ok in
      start-view-kept s m h v o c (carried_bytes (StartView v o c) frame) (record { op_le = f.0; commit-le = f.1.0 }) f.1.1
  handled-kept (Recovery r x v) latest frame ok = sent-kept h _ (recovery-held s m h r x v)
  handled-kept (RecoveryResponse v x r t) latest frame ok =
      response-kept s m h v x r t (carried_bytes (RecoveryResponse v x r t) frame) (response-fit s.setup frame v x r t ok)

  message-kept : (x : Message) (latest : Latest) (frame : List ℕ) → check_frame s.setup frame ≡ Ok x
      → Kept s.setup (message_step x s latest frame m)
  unfolding message_step
  message-kept x latest frame ok = split (Kept s.setup) _ _ _ (λ _. handled-kept x latest frame ok) (λ _. still_kept h _ here)

  -- ---- on_idle

  ticked-held : (c : Clock) → Held s.setup (with_clock s c) m.runs
  ticked-held c = moves here (with_clock s c) refl refl refl h.reports

  normal-held : Speaks (normal_tick s m.runs.log m.out)
  unfolding normal_tick follow_tick primary_tick
  normal-held =
      let t = tick_of s.setup.timeout Follow s.clock in
      split Speaks _ _ _ (λ _. split Speaks _ _ _ (λ _. here) (λ _. ticked-held _)) λ _.
      split Speaks _ _ _ (λ _. next-view-held s m h t.clock) (λ _. ticked-held t.clock)

  ask-held : (t : Ticked) → Speaks (ask_tick s t m.out)
  unfolding ask_tick transfer_tick
  ask-held t =
      split Speaks _ _ _ (λ _. next-view-asking-held s m h t.clock)
      (λ _. asked-held here (with_clock s t.clock) s.op m.out (ticked-held t.clock))

  idle-kept : Kept s.setup (idle_step s m)
  unfolding idle_step changing_tick
  idle-kept =
      let t = tick_of s.setup.timeout Change s.clock in
      split (Kept s.setup) _ _ _ (λ _. sent-kept h _ normal-held) λ _.
      split (Kept s.setup) _ _ _ (λ _. sent-kept h _ (ask-held (tick_of s.setup.timeout Follow s.clock))) λ _.
      split (Kept s.setup) _ _ _ (λ _. change-tick-kept s m h t.clock t.up) λ _.
      sent-kept h _ (recovering-held s m h)

pub message-stays : (x : Message) (s : Replica) (latest : Latest) (frame : List ℕ) (m : Memory) → Gathering s m
    → check_frame s.setup frame ≡ Ok x → Stays s (message_step x s latest frame m)
message-stays x s latest frame m h ok = stays s _ (message-kept s m h x latest frame ok)

pub idle-stays : (s : Replica) (m : Memory) → Gathering s m → Stays s (idle_step s m)
idle-stays s m h = stays s _ (idle-kept s m h)
