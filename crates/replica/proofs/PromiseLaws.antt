-- From `exact` to `meaning` and `keeps`. Assumes nothing.
use Rattle.std.specs.Prelude.{Result, Ok, Err}
use mathlib.Core.Path.{◌≡◌, refl, sym, ap, subst}
use mathlib.Core.Bool.{not}
use mathlib.Core.List.{List}
use Prim.Native.Nat.{ℕ}
use lib.ListN.{length}
use Rattle.numbers.specs.Numbers.{Bytes}
use Rattle.numbers.specs.declared.View.{View}
use Rattle.numbers.proofs.WordLaws.{if-false}
use Rattle.entries.specs.declared.Entry.{Entry}
use Rattle.config.specs.declared.Setup.{Setup}
use Rattle.frames.specs.Refusals.{check_frame}
use Rattle.frames.specs.declared.Refusal.{Refusal}
use Rattle.state.specs.declared.Replica.{Replica}
use Rattle.handlers.specs.Handlers.{message_step, idle_step}
use Rattle.handlers.proofs.Stays.{message-stays, idle-stays}
use Rattle.handlers.proofs.BytesStay.{InBytes, message-bytes, idle-bytes}
use Rattle.steps.proofs.Ruled.{Ruled}
use Rattle.handlers.proofs.EntriesStay.{message-ruled, idle-ruled}
use Rattle.model.specs.State.{State, Answer, after}
use Rattle.model.specs.Steps.{fitted, on_checked, on_idle, on_frame, on_tick}
use Rattle.handlers.proofs.HandlersLift.{message-shown, idle-shown}
use Rattle.safety.specs.Demand.{answer}
use Rattle.safety.specs.Demand.Call.{frame as framed, tick}
use Rattle.outside.proofs.CallLaws.{past-1}
use Rattle.replica.specs.Calls.{latest_for, following, checked_call, message_call, idle_call, create_call, recover_call}
use Rattle.replica.specs.Lent.{Lent, Called, lengths_of}
use Rattle.replica.specs.Meaning.{meaning_of, Owned, Reached, Kept, frame_answer, tick_answer}
use Rattle.replica.specs.Promise.{MessagePromise, IdlePromise, CreatePromise, RecoverPromise}
use Rattle.replica.proofs.KeptLaws.{goes_on, Promised, given, rows, whole, never-1, fit, row-tells, refused-kept, step_kept}
use Rattle.replica.proofs.StartLaws.{create-means, create-keeps, recover-means, recover-keeps}
use Rattle.frames.specs.declared.Message.{Message}

-- ---- a frame, and a tick

module _ (s : Replica) (x : Lent) (applied : List Entry) (o : Owned x) (k : Kept s x applied) where
  abbrev u : Setup
  u = s.setup

  abbrev m : State
  m = meaning_of s x applied

  abbrev sized-to : Answer → Answer
  sized-to a = fitted (length x.core.out) (length x.core.reps) a

  ruled : Ruled s x.core
  ruled = record { log = k.log-ok; seven = k.rows-count; stored = k.stored_ok }

  bytes : InBytes x.core
  bytes = (record { log = o.log; money = record { results = o.results; totals = o.totals } }, o.stored)

  module _ (frame : List ℕ) (b : Bytes frame) where
    abbrev says : Result Message Refusal → Answer
    says y = sized-to (on_checked u m frame y)

    frame_is : frame_answer s frame x applied ≡ says (check_frame u frame)
    unfolding on_frame
    frame_is = if-false _ _ _ (ap not (never-1 s x applied o k))

    call-is : message_call s frame x ≡ checked_call (check_frame u frame) s frame x
    unfolding message_call
    call-is = ap (λ (y : Result Message Refusal). checked_call y s frame x) (past-1 s (lengths_of x) frame k.sound)

    checked-kept : (y : Result Message Refusal) → check_frame u frame ≡ y → Reached u (after m (says y)) → Promised s x m (checked_call y s frame x) (says y)
    unfolding checked_call on_checked fitted
    checked-kept (Err i) e r = refused-kept s x applied o k i _ refl
    checked-kept (Ok y) e r =
        let latest = latest_for y u.room x.table in
        let g = (whole s x applied o k).gathering in
        step_kept s x applied o k (message_step y s latest frame x.core) _
        (message-shown (given s x applied o k) (rows s x applied o k) applied (fit s x applied o k) y latest frame e b
        (row-tells s x applied o k y))
        (message-stays y s latest frame x.core g e) (message-ruled y s latest frame x.core g ruled b e)
        (message-bytes y s latest frame x.core bytes b).0 r

    message-kept : Promised s x m (message_call s frame x) (frame_answer s frame x applied)
    unfolding answer
    message-kept =
        let r = goes_on u m (framed frame (length x.core.out) (length x.core.reps)) k.reached in
        subst (Promised s x m (message_call s frame x)) (sym frame_is)
        (subst (λ (d : Called). Promised s x m d (says (check_frame u frame))) (sym call-is)
        (checked-kept (check_frame u frame) refl (subst (λ (a : Answer). Reached u (after m a)) frame_is r)))

  tick_is : tick_answer s x applied ≡ sized-to (on_idle u m)
  unfolding on_tick
  tick_is = if-false _ _ _ (ap not (never-1 s x applied o k))

  idle-is : idle_call s x ≡ following s x.table (idle_step s x.core)
  unfolding idle_call
  idle-is = if-false _ _ _ (ap not k.sound)

  stepped_kept : Reached u (after m (sized-to (on_idle u m)))
      → Promised s x m (following s x.table (idle_step s x.core)) (sized-to (on_idle u m))
  stepped_kept r =
      let g = (whole s x applied o k).gathering in
      step_kept s x applied o k (idle_step s x.core) _
      (idle-shown (given s x applied o k) (rows s x applied o k) applied (fit s x applied o k))
      (idle-stays s x.core g) (idle-ruled s x.core g ruled) (idle-bytes s x.core bytes).0 r

  idle-kept : Promised s x m (idle_call s x) (tick_answer s x applied)
  unfolding answer
  idle-kept =
      let r = goes_on u m (tick (length x.core.out) (length x.core.reps)) k.reached in
      subst (Promised s x m (idle_call s x)) (sym tick_is)
      (subst (λ (d : Called). Promised s x m d (sized-to (on_idle u m))) (sym idle-is)
      (stepped_kept (subst (λ (a : Answer). Reached u (after m a)) tick_is r)))

pub message-promised : (s : Replica) (frame : List ℕ) (x : Lent) (d : Called) → d ≡ message_call s frame x → MessagePromise s frame x d
message-promised s frame x d e =
    subst (MessagePromise s frame x) (sym e)
    record {
      exact = refl;
      meaning = λ applied b o k. (message-kept s x applied o k frame b).0;
      keeps = λ applied b o k. (message-kept s x applied o k frame b).1;
    }

pub idle-promised : (s : Replica) (x : Lent) (d : Called) → d ≡ idle_call s x → IdlePromise s x d
idle-promised s x d e =
    subst (IdlePromise s x) (sym e)
    record {
      exact = refl;
      meaning = λ applied o k. (idle-kept s x applied o k).0;
      keeps = λ applied o k. (idle-kept s x applied o k).1;
    }

-- ---- creation, and recovery

pub create-promised : (u : Setup) (x : Lent) (d : Called) → d ≡ create_call u x → CreatePromise u x d
create-promised u x d e = subst (CreatePromise u x) (sym e) (record { exact = refl; meaning = create-means u x; keeps = create-keeps u x })

pub recover-promised : (u : Setup) (v : View) (nonce : ℕ) (x : Lent) (d : Called) → d ≡ recover_call u v nonce x → RecoverPromise u v nonce x d
recover-promised u v nonce x d e =
    subst (RecoverPromise u v nonce x) (sym e)
    (record { exact = refl; meaning = recover-means u v nonce x; keeps = recover-keeps u v nonce x })
