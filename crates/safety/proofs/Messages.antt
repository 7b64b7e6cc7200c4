-- Any frame and any tick keep the invariant: what passed the refusals on the frame alone is what the handlers' lemmas want. Assumes nothing.
use Rattle.std.specs.Prelude.{Some, None, Result, Ok, Err}
use Prim.Native.Nat.{ℕ, ◌-◌, ◌≤◌}
use native.Mathlib.Omega.{arith}
use mathlib.Core.Path.{◌≡◌, refl, sym}
use mathlib.Core.Bool.{true}
use mathlib.Core.List.{List}
use mathlib.Core.Option.{none, some}
use lib.ListN.{length, drop}
use borrow.Author.Tests.{leb-true}
use Rattle.numbers.specs.Words.{when◌then◌else◌}
use Rattle.numbers.specs.Numbers.{num, op_at}
use Rattle.numbers.specs.declared.View.{View}
use Rattle.numbers.specs.declared.Op.{Op}
use Rattle.numbers.proofs.CellLaws.{cells-length}
use Rattle.entries.specs.Entries.{entry_of, entries}
use Rattle.config.specs.declared.Setup.{Setup}
use Rattle.frames.specs.Kinds.{fields_ok}
use Rattle.frames.specs.Messages.{message_of, state_row, carried_of, carried_bytes}
use Rattle.frames.specs.Refusals.{whole_log, check_frame}
use Rattle.frames.specs.declared.Message.{Message}
use Rattle.frames.specs.declared.Message.TheVariants.{Request, Prepare, PrepareOk, Commit, GetState, NewState, StartViewChange, DoViewChange, StartView, Recovery, RecoveryResponse}
use Rattle.frames.specs.declared.Refusal.{Refusal}
use Rattle.frames.proofs.MessageLaws.{Said}
use Rattle.frames.proofs.RefusalLaws.{Fit, passed}
use Rattle.writers.specs.Writers.{state_size, size_of}
use Rattle.model.specs.State.{State, Answer}
use Rattle.model.specs.State.Answer.{refused, done}
use Rattle.model.specs.Steps.{fitted, carried_log, held_in, on_message, on_checked, on_frame, on_tick}
use Rattle.safety.specs.Demand.{Call, answer}
use Rattle.safety.specs.Demand.Call.{frame, tick}
use Rattle.safety.proofs.Handlers.{Good, cases, ignored-good, request-good, prepare-good, prepare_ok-good, commit-good, get_state-good, new_state-good}
use Rattle.safety.proofs.Handlers.{start_view_change-good, do_view_change-good, on_start_view-good, recovery-good, response-good, idle-good}
use Rattle.safety.proofs.Handlers.Good.{refusal}
use Rattle.frames.specs.declared.Refusal.TheVariants.{OutOfRange, NoRoomForMessages, NoRoomForReplies}

-- a NewState that is well formed starts at or before its end
starts_first : (s : List ℕ) (to : ℕ) (v : View) (a z c : Op) → Said s to (NewState v a z c) → a.0 ≤ z.0
unfolding carried_of fields_ok message_of when◌then◌else◌
starts_first s to v a z c t =
    let k : num 1 5 s ≡ 6 = sym t.kind in
    let f : fields_ok 6 s ≡ true = rw k at t.form.fields in
    let m : NewState v a z c ≡ message_of 6 s = rw k at t.message in
    let p : a ≡ op_at 11 s = cc in
    let q : z ≡ op_at 15 s = cc in
    rw (p, q) (leb-true (num 4 11 s) (num 4 15 s) f)

module _ (u : Setup) (m : State) (s : List ℕ) where
  -- how many entries a frame carries
  many : (k a : ℕ) → length (entries k (drop a s)) ≡ k
  many k a = cells-length 32 entry_of k (drop a s)

  message-good : (x : Message) → Fit u s x → Good u m (on_message u m x (carried_log x s))
  unfolding on_message carried_log carried_bytes carried_of state_row size_of state_size whole_log held_in
  message-good (Request e) f = request-good u m e
  message-good (Prepare v o c e) f = prepare-good u m v.0 o.0 c.0 e
  message-good (PrepareOk v o r) f = prepare_ok-good u m v.0 o.0 r
  message-good (Commit v c) f = commit-good u m v.0 c.0
  message-good (GetState r v o) f = get_state-good u m r v.0 o.0
  message-good (NewState v a z c) f =
      new_state-good u m a.0 z.0 c.0 _ (omega (arith, many (z.0 - a.0) 23, starts_first s u.id v a z c f.said)) f.op f.commit v.0
  message-good (StartViewChange v r) f = start_view_change-good u m v.0 r
  message-good (DoViewChange v r l o c) f =
      do_view_change-good u m v.0 r _
      (record { fits = omega (arith, many o.0 24, f.op); rises = f.rises; commit-le = omega (arith, many o.0 24, f.commit) })
  message-good (StartView v o c) f =
      on_start_view-good u m v.0 _
      (record { fits = omega (arith, many o.0 19, f.op); rises = f.rises; commit-le = omega (arith, many o.0 19, f.commit) })
  message-good (Recovery r x v) f = recovery-good u m r x v.0
  message-good (RecoveryResponse v x r None) f = response-good u m v.0 x r none tt
  message-good (RecoveryResponse v x r (Some p)) f =
      response-good u m v.0 x r (some _)
      (record { fits = omega (arith, many p.op.0 29, f.op); rises = f.rises; commit-le = omega (arith, many p.op.0 29, f.commit) })

  checked-good : (x : Result Message Refusal) → check_frame u s ≡ x → Good u m (on_checked u m s x)
  unfolding on_checked
  checked-good (Err k) e = refusal k
  checked-good (Ok x) e = cases u _ _ _ (λ _. ignored-good u) (λ _. message-good x (passed u s x e))

-- refusals 9 and 10
fitted-good : (u : Setup) (m : State) (a b : ℕ) (x : Answer) → Good u m x → Good u m (fitted a b x)
unfolding fitted
fitted-good u m a b (refused k) g = g
fitted-good u m a b (done m' out rs) g = cases u _ _ _ (λ _. refusal NoRoomForMessages) λ _. cases u _ _ _ (λ _. refusal NoRoomForReplies) (λ _. g)

pub call-good : (u : Setup) (m : State) (c : Call) → Good u m (answer u m c)
unfolding answer on_frame on_tick
call-good u m (frame s a b) =
    cases u _ _ _ (λ _. refusal OutOfRange) (λ _. fitted-good u m a b _ (checked-good u m s (check_frame u s) refl))
call-good u m (tick a b) = cases u _ _ _ (λ _. refusal OutOfRange) (λ _. fitted-good u m a b _ (idle-good u m))
