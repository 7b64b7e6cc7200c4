-- on_message's match and on_idle, lifted to the model: what every handler's lift needs comes from memory that calls produced and from what refusals 2
-- to 6 leave of a frame.
--     message-shown, idle-shown
-- Assumes nothing.
use Rattle.std.specs.Prelude.{Option as RustOption, Some, None, Ok, Err}
use Prim.Native.Nat.{ℕ}
use mathlib.Core.Path.{◌≡◌, refl, sym, ◌∙◌, subst}
use mathlib.Core.Bool.{Bool, true, false, false≢true}
use mathlib.Core.List.{List, []}
use mathlib.Core.Option.{Option}
use lib.Dec.{eqb}
use lib.ListN.{length}
use Rattle.numbers.specs.Words.{when◌then◌else◌, ◌and◌, ◌or◌}
use Rattle.numbers.specs.Numbers.{within, Bytes}
use Rattle.numbers.specs.declared.View.{View}
use Rattle.numbers.specs.declared.Op.{Op}
use Rattle.numbers.proofs.WordLaws.{if-true, split, split₂, by-not}
use Rattle.entries.specs.Entries.{entries, entries_ok}
use Rattle.entries.specs.Rising.{rising}
use Rattle.entries.specs.declared.Entry.{Entry}
use Rattle.config.specs.declared.Setup.{Setup}
use Rattle.clock.specs.Clock.{tick_of}
use Rattle.clock.specs.declared.Ticked.{Ticked}
use Rattle.clock.specs.declared.Duty.TheVariants.{Follow, Change}
use Rattle.frames.specs.Messages.{state_row, carried_of, carried_bytes}
use Rattle.frames.specs.Refusals.{check_frame}
use Rattle.frames.specs.Looks.{changing, looks_at}
use Rattle.frames.specs.Kinds.{kind_number}
use Rattle.frames.specs.declared.Kind.{Kind}
use Rattle.frames.specs.declared.Kind.TheVariants as kind
use Rattle.frames.specs.declared.Status.{Status}
use Rattle.frames.specs.declared.Status.TheVariants.{Normal, StateTransfer, ViewChange, Recovering}
use Rattle.frames.specs.declared.Progress.{Progress}
use Rattle.frames.specs.declared.Message.{Message}
use Rattle.frames.specs.declared.Message.TheVariants.{Request, Prepare, PrepareOk, Commit, GetState, NewState, StartViewChange, DoViewChange, StartView, Recovery, RecoveryResponse}
use Rattle.writers.specs.Writers.{state_size, size_of}
use Rattle.client_table.specs.declared.Latest.{Latest}
use Rattle.state.specs.State.{leads}
use Rattle.state.specs.Statuses.{is_normal, is_transfer, is_changing, is_recovering}
use Rattle.steps.specs.Steps.{Sound, Spoke}
use Rattle.steps.specs.Recorded.{Recorded, Gathering}
use Rattle.voting.specs.Tick.{next_view, next_view_asking}
use Rattle.recovery.specs.Recovery.{response_of}
use Rattle.handlers.specs.Handlers as H
use Rattle.normal.specs.Prepare.{prepared_by}
use Rattle.transfer.specs.NewState.{part_of}
use Rattle.handlers.specs.Handlers.{handled, message_step, normal_tick, ask_tick, changing_tick, idle_step}
use Rattle.handlers.proofs.FrameLaws.{request-ok, prepare-ok, call-fit, new-state-fit, report-fit, report-ok, start-view-fit, start-view-ok, response-fit, response-ok}
use Rattle.model.specs.State.{ClientEntry, Held, State, Answer, ignored, op_of}
use Rattle.model.specs.Sending.{primary, is_primary, send_get_state}
use Rattle.model.specs.Recovery.{on_recovery_response}
use Rattle.layout.specs.Layout.{model_of}
use Rattle.model.specs.Steps.{fitted, carried_log, held_in, on_message, on_checked, primary_tick, follow_tick, on_idle}
use Rattle.layout.specs.Shown.{Given, Shown, Tells}
use Rattle.model.proofs.LatestLaws as L
use Rattle.steps.proofs.StepLift.{of_spoke, book_runs}
use Rattle.steps.proofs.SendLift as S
use Rattle.normal.proofs.RequestLift.{request-shown}
use Rattle.normal.proofs.PrepareLift.{commit-shown, prepare-shown}
use Rattle.normal.proofs.PrepareOkLift.{prepare-ok-shown}
use Rattle.transfer.proofs.TransferLift.{get-state-shown, transfer-tick-shown, backup-tick-shown, new-state-shown}
use Rattle.view_change.proofs.StartViewLift.{start-view-shown}
use Rattle.do_view_change.proofs.BeginLift.{memory_of, of_recorded, Changing}
use Rattle.do_view_change.proofs.DoViewChangeLift.{holding, do-view-change-shown}
use Rattle.voting.proofs.VoteLift.{start-view-change-shown, next-view-shown, next-view-asking-shown, change-tick-shown}
use Rattle.recovery.proofs.RecoveryLift.{recovering-tick-shown, recovery-shown, response-shown}
use Rattle.normal.proofs.PrimaryTickLift.{primary-tick-shown}
use Rattle.reports.proofs.StoredLift.{StoredOk}
use Rattle.frames.proofs.MessageLaws.{carried-in-bytes}

-- the row that is handed in tells of the client whose entry a message carries
abbrev pub RowTells : List ClientEntry → Message → Latest → Type 0
RowTells table (Request e) latest = Tells table e.client latest
RowTells table (Prepare v o c e) latest = Tells table e.client latest
RowTells table (PrepareOk v o r) latest = Unit
RowTells table (Commit v c) latest = Unit
RowTells table (GetState r v o) latest = Unit
RowTells table (NewState v a z c) latest = Unit
RowTells table (StartViewChange v r) latest = Unit
RowTells table (DoViewChange v r l o c) latest = Unit
RowTells table (StartView v o c) latest = Unit
RowTells table (Recovery r x v) latest = Unit
RowTells table (RecoveryResponse v x r t) latest = Unit

-- state and memory as calls leave them, with the model's table
pub record Fit (c : Given) (table : List ClientEntry) : Type 0 where
  pub gathering : Gathering c.state (memory_of c)
  pub log-ok : entries_ok c.state.op.0 c.runs.log ≡ true
  pub log-bytes : Bytes c.runs.log
  pub totals : Bytes c.runs.totals
  pub stored : StoredOk c.state c.runs.stored
  pub rises : rising (entries c.state.op.0 c.runs.log) ≡ true
  pub known : L.Latest table (entries c.state.op.0 c.runs.log)

-- ---- what a status looks at

-- a Recovering replica looks at kind 11 alone
awake : (s : Status) (k : Kind) → eqb (kind_number k) 11 ≡ false → looks_at s k ≡ true → is_recovering s ≡ false
unfolding looks_at is_recovering
awake Normal k e l = refl
awake StateTransfer k e l = refl
awake ViewChange k e l = refl
awake Recovering k e l = absurd (false≢true (sym e ∙ l))

-- and nobody else at it
asleep : (s : Status) → looks_at s kind.RecoveryResponse ≡ true → is_recovering s ≡ true
unfolding looks_at changing within ◌and◌ ◌or◌ is_recovering
asleep Normal l = absurd (false≢true l)
asleep StateTransfer l = absurd (false≢true l)
asleep ViewChange l = absurd (false≢true l)
asleep Recovering l = refl

recovers : (s : Status) (r : ℕ) (t : RustOption Progress) → looks_at s (state_row r t).kind ≡ true → is_recovering s ≡ true
unfolding state_row
recovers s r None l = asleep s l
recovers s r (Some p) l = asleep s l

-- each of the other three is not Recovering
in-normal : (s : Status) → is_normal s ≡ true → is_recovering s ≡ false
unfolding is_normal is_recovering
in-normal Normal e = refl
in-normal StateTransfer e = refl
in-normal ViewChange e = refl
in-normal Recovering e = absurd (false≢true e)

in-transfer : (s : Status) → is_transfer s ≡ true → is_recovering s ≡ false
unfolding is_transfer is_recovering
in-transfer Normal e = refl
in-transfer StateTransfer e = refl
in-transfer ViewChange e = refl
in-transfer Recovering e = absurd (false≢true e)

in-change : (s : Status) → is_changing s ≡ true → is_recovering s ≡ false
unfolding is_changing is_recovering
in-change Normal e = refl
in-change StateTransfer e = refl
in-change ViewChange e = refl
in-change Recovering e = absurd (false≢true e)

-- a choice within a choice, and by joined tests
by_both : {A : Type 0} (a b : Bool) (x y z : A) → (when a then (when b then x else y) else z) ≡ (when a and b then x else when a then y else z)
unfolding when◌then◌else◌ ◌and◌
by_both true true x y z = refl
by_both true false x y z = refl
by_both false b x y z = refl

-- ---- what a frame carries

-- what a RecoveryResponse carries, as the handler reads it and as the model does
held_same : (v : View) (t : RustOption Progress) (part : List ℕ)
    → held_in t (entries (response_of v t).op.0 part) ≡ held_in t (entries (state_size t).entries part)
unfolding held_in response_of state_size
held_same v None part = refl
held_same v (Some p) part = refl

module _ (c : Given) (table : List ClientEntry) (applied : List Entry) (h : Fit c table) where
  abbrev m : State
  m = model_of c.state c.runs table applied

  abbrev u : Setup
  u = c.state.setup

  abbrev Goal : Recorded → Answer → Type 0
  Goal d a = Shown c (of_recorded d) m.book (fitted (length c.out) (length c.reps) a)

  abbrev Awake : Type 0
  Awake = is_recovering c.state.status ≡ false

  sound : Sound c.state (book_runs c.runs)
  sound = h.gathering.sound

  changes : Awake → Changing c c.state
  changes looks =
      record {
        gathering = h.gathering;
        setup = refl;
        op = refl;
        commit = refl;
        takings = refl;
        looks = looks;
        totals = h.totals;
        log-ok = h.log-ok;
        log-bytes = h.log-bytes;
      }

  -- ---- on_message

  module _ (latest : Latest) (frame : List ℕ) (bytes : Bytes frame) where
    abbrev Handles : Message → Type 0
    Handles x = Goal (handled x c.state latest frame (memory_of c)) (on_message u m x (carried_log x frame))

    abbrev Passes : Message → Type 0
    Passes x = check_frame u frame ≡ Ok x

    on-request : (e : Entry) → Passes (Request e) → Tells table e.client latest → Handles (Request e)
    unfolding handled on_message
    on-request e ok tells =
        request-shown c table applied e latest
        record {
          ready =
              record {
                sized = sound.sized;
                commit-le = sound.commit-le;
                op_le = sound.op_le;
                log-long = sound.log-long;
                acks-long = h.gathering.acks-long;
              };
          fits = (request-ok u frame e ok bytes).0;
          rises = h.rises;
          known = h.known;
          tells = tells;
        }

    on-prepare : (v : View) (o k : Op) (e : Entry) → Passes (Prepare v o k e) → Tells table e.client latest → Awake → Handles (Prepare v o k e)
    unfolding handled on_message
    on-prepare v o k e ok tells looks =
        prepare-shown c (prepared_by o k e latest) table applied
        record {
          sound = sound;
          bytes = h.totals;
          looks = looks;
          fits = (prepare-ok u frame v o k e ok bytes).0;
          rises = h.rises;
          latest = h.known;
          row = tells;
        }
        v

    on-prepare-ok : (v : View) (o : Op) (r : ℕ) → Handles (PrepareOk v o r)
    unfolding handled on_message
    on-prepare-ok v o r = prepare-ok-shown c table applied v o r sound h.totals

    on-commit : (v : View) (k : Op) → Awake → Handles (Commit v k)
    unfolding handled on_message
    on-commit v k looks = commit-shown c table applied sound h.totals looks k v

    on-get-state : (r : ℕ) (v : View) (o : Op) → Handles (GetState r v o)
    unfolding handled on_message
    on-get-state r v o =
        get-state-shown c table applied r v o
        (record { sized = sound.sized; op_le = sound.op_le; log-long = sound.log-long }) h.log-ok h.log-bytes

    on-new-state : (v : View) (a z k : Op) → Passes (NewState v a z k) → Awake → Handles (NewState v a z k)
    unfolding handled on_message carried_log size_of
    on-new-state v a z k ok looks =
        let f = new-state-fit u frame v a z k ok in
        new-state-shown c table applied v (part_of a z k) (carried_bytes (NewState v a z k) frame)
        record {
          sound = sound;
          numbers = record { start-le = f.0; end-le = f.1.0; commit-le = f.1.1.0 };
          long = f.1.1.1;
          totals = h.totals;
          rises = h.rises;
          looks = looks;
        }

    on-start-view-change : (v : View) (r : ℕ) → Passes (StartViewChange v r) → Awake → Handles (StartViewChange v r)
    unfolding handled on_message
    on-start-view-change v r ok looks =
        start-view-change-shown c table applied (changes looks) h.stored v r (call-fit u frame v r ok)

    on-do-view-change : (v : View) (r : ℕ) (l : View) (o k : Op) → Passes (DoViewChange v r l o k) → Awake → Handles (DoViewChange v r l o k)
    unfolding handled on_message carried_log size_of
    on-do-view-change v r l o k ok looks =
        let f = report-fit u frame v r l o k ok in
        do-view-change-shown c table applied (changes looks) h.stored v r l o k (carried_bytes (DoViewChange v r l o k) frame)
        (record { sender = f.0; op_le = f.1.0; commit-le = f.1.1.0; long = f.1.1.1 })
        (report-ok u frame v r l o k ok) (carried-in-bytes (DoViewChange v r l o k) frame bytes)

    on-start-view : (v : View) (o k : Op) → Passes (StartView v o k) → Awake → Handles (StartView v o k)
    unfolding handled on_message carried_log size_of
    on-start-view v o k ok looks =
        let f = start-view-fit u frame v o k ok in
        start-view-shown c table applied v o k (carried_bytes (StartView v o k) frame)
        record {
          sound = sound;
          acks-long = h.gathering.acks-long;
          numbers = record { op_le = f.0; commit-le = f.1.0 };
          long = f.1.1;
          totals = h.totals;
          log-ok = h.log-ok;
          log-bytes = h.log-bytes;
          part-ok = start-view-ok u frame v o k ok;
          part_bytes = carried-in-bytes (StartView v o k) frame bytes;
          looks = looks;
        }

    on-recovery : (r x : ℕ) (v : View) → Awake → Handles (Recovery r x v)
    unfolding handled on_message
    on-recovery r x v looks = recovery-shown c table applied r x v (holding c (changes looks)) looks h.log-ok h.log-bytes

    on-response : (v : View) (x r : ℕ) (t : RustOption Progress) → Passes (RecoveryResponse v x r t) → is_recovering c.state.status ≡ true
        → Handles (RecoveryResponse v x r t)
    unfolding handled on_message carried_log size_of
    on-response v x r t ok recovering =
        let f = response-fit u frame v x r t ok in
        subst
        (λ (held : Option Held).
        Goal (handled (RecoveryResponse v x r t) c.state latest frame (memory_of c)) (on_recovery_response u m v.0 x r held))
        (held_same v t (carried_bytes (RecoveryResponse v x r t) frame))
        (response-shown c table applied v x r t (carried_bytes (RecoveryResponse v x r t) frame)
        (record { sound = sound; reports = h.gathering.reports; stored-long = h.gathering.stored-long })
        (record { sender = f.0; op_le = f.1.0; commit-le = f.1.1.0; long = f.1.1.1 })
        recovering h.totals h.stored h.log-ok h.log-bytes (response-ok u frame v x r t ok) (carried-in-bytes (RecoveryResponse v x r t) frame bytes))

    -- each kind, where the status looks at it
    handles : (x : Message) → Passes x → RowTells table x latest → looks_at c.state.status (carried_of x).kind ≡ true → Handles x
    unfolding carried_of
    handles (Request e) ok tells l = on-request e ok tells
    handles (Prepare v o k e) ok tells l = on-prepare v o k e ok tells (awake _ kind.Prepare refl l)
    handles (PrepareOk v o r) ok tells l = on-prepare-ok v o r
    handles (Commit v k) ok tells l = on-commit v k (awake _ kind.Commit refl l)
    handles (GetState r v o) ok tells l = on-get-state r v o
    handles (NewState v a z k) ok tells l = on-new-state v a z k ok (awake _ kind.NewState refl l)
    handles (StartViewChange v r) ok tells l = on-start-view-change v r ok (awake _ kind.StartViewChange refl l)
    handles (DoViewChange v r w o k) ok tells l = on-do-view-change v r w o k ok (awake _ kind.DoViewChange refl l)
    handles (StartView v o k) ok tells l = on-start-view v o k ok (awake _ kind.StartView refl l)
    handles (Recovery r x v) ok tells l = on-recovery r x v (awake _ kind.Recovery refl l)
    handles (RecoveryResponse v x r t) ok tells l = on-response v x r t ok (recovers _ r t l)

  pub message-shown : (x : Message) (latest : Latest) (frame : List ℕ) → check_frame c.state.setup frame ≡ Ok x → Bytes frame
      → RowTells table x latest
      → Shown c (of_recorded (message_step x c.state latest frame (memory_of c))) m.book
      (fitted (length c.out) (length c.reps) (on_checked c.state.setup m frame (Ok x)))
  unfolding message_step on_checked model_of
  message-shown x latest frame ok bytes tells =
      subst (Goal (message_step x c.state latest frame (memory_of c)))
      (by-not (looks_at c.state.status (carried_of x).kind) (on_message u m x (carried_log x frame)) (ignored m))
      (split₂ Goal _ _ _ _ _ _ refl (λ l. handles latest frame bytes x ok tells l)
      (λ _. S.idle-shown c table applied))

  -- ---- on_idle

  abbrev Said : Spoke → Answer → Type 0
  Said d a = Shown c (of_spoke c d) m.book (fitted (length c.out) (length c.reps) a)

  module _ (t : Ticked) (looks : Awake) where
    follows : Said (H.follow_tick c.state t c.out) (follow_tick u m t [])
    unfolding H.follow_tick follow_tick
    follows =
        split (λ (d : Spoke). Said d (follow_tick u m t [])) t.up _ _
        (λ up.
        subst (Said (next_view c.state t.clock c.out)) (sym (if-true _ _ _ up))
        (next-view-shown c table applied (changes looks) h.stored t))
        (λ f. backup-tick-shown c table applied t t.clock f refl)

    asks : Said (ask_tick c.state t c.out) (follow_tick u m t (send_get_state u m (op_of m)))
    unfolding ask_tick follow_tick
    asks =
        split (λ (d : Spoke). Said d (follow_tick u m t (send_get_state u m (op_of m)))) t.up _ _
        (λ up.
        subst (Said (next_view_asking c.state t.clock c.out)) (sym (if-true _ _ _ up))
        (next-view-asking-shown c table applied (changes looks) h.stored t))
        (λ f. transfer-tick-shown c table applied t t.clock f refl)

  normal : Awake → Said (normal_tick c.state c.runs.log c.out)
      (when is_primary u m then primary_tick u m else follow_tick u m (tick_of u.timeout Follow c.state.clock) [])
  unfolding normal_tick leads is_primary primary model_of
  normal looks =
      split₂ Said _ _ _ _ _ _ refl
      (λ _.
      primary-tick-shown c table applied
      (record { sized = sound.sized; commit-le = sound.commit-le; op_le = sound.op_le; log-long = sound.log-long }))
      (λ _. follows _ looks)

  pub idle-shown : Shown c (of_recorded (idle_step c.state (memory_of c))) m.book
      (fitted (length c.out) (length c.reps) (on_idle c.state.setup m))
  unfolding idle_step changing_tick on_idle model_of
  idle-shown =
      subst (Goal (idle_step c.state (memory_of c))) (by_both (is_normal c.state.status) (is_primary u m) _ _ _)
      (split₂ Goal _ _ _ _ _ _ refl (λ n. normal (in-normal _ n)) λ _.
      split₂ Goal _ _ _ _ _ _ refl (λ n. asks _ (in-transfer _ n)) λ _.
      split₂ Goal _ _ _ _ _ _ refl
      (λ n. change-tick-shown c table applied (changes (in-change _ n)) h.stored (tick_of u.timeout Change c.state.clock))
      (λ _. recovering-tick-shown c table applied sound.sized))
