-- What a frame that passes refusals 2 to 6 says, kind by kind: its numbers are inside the sizes, the log that it carries is there, and each entry
-- keeps the rules.
--     ok-fit, call-fit                                       PrepareOk, StartViewChange: sender and op number
--     new-state-fit, report-fit, start-view-fit, response-fit    numbers and log of a NewState, DoViewChange, StartView, RecoveryResponse
--     request-ok, prepare-ok                                 the entry of a Request or Prepare: its fields fit, and it keeps the rules
--     new-state-ok, report-ok, start-view-ok, response-ok    the rules of the entries that they carry
-- Assumes nothing.
use Rattle.std.specs.Prelude.{Option, Some, None, Ok, Err}
use mathlib.Core.Path.{◌≡◌, refl, sym, ap, ◌∙◌, subst}
use mathlib.Core.Bool.{true}
use mathlib.Core.List.{List}
use Prim.Native.Nat.{ℕ, ◌+◌, ◌-◌, ◌*◌, ◌≤◌, ◌<◌}
use native.Mathlib.Omega.{arith}
use borrow.Author.Tests.{leb-true}
use lib.Dec.{eqb}
use lib.ListN.{length, drop, length-drop}
use Rattle.numbers.specs.Words.{when◌then◌else◌}
use Rattle.numbers.specs.Numbers.{num, Bytes, op_at}
use Rattle.numbers.specs.declared.View.{View}
use Rattle.numbers.specs.declared.Op.{Op}
use Rattle.numbers.proofs.WordLaws.{split, and_left}
use Rattle.numbers.proofs.NumberLaws.{drop-bytes}
use Rattle.entries.specs.Entries.{operation_ok, entry_of, entries_ok, EntryFits}
use Rattle.entries.specs.declared.Entry.{Entry}
use Rattle.entries.proofs.SendableLaws.{ok-entry, entry-fits}
use Rattle.config.specs.declared.Setup.{Setup}
use Rattle.frames.specs.Kinds.{kind_number, room_of, fields_ok, count_of}
use Rattle.frames.specs.Messages.{progress, response_state, message_of, state_row, carried_of, carried_bytes}
use Rattle.frames.specs.Refusals.{check_frame}
use Rattle.frames.specs.declared.Message.{Message}
use Rattle.frames.specs.declared.Message.TheVariants.{Request, Prepare, PrepareOk, NewState, StartViewChange, DoViewChange, StartView, RecoveryResponse}
use Rattle.frames.specs.declared.Progress.{Progress}
use Rattle.frames.proofs.RefusalLaws.{passed}
use Rattle.recovery.specs.Recovery.{response_of}

-- what a frame that passes says, k being its kind
record Known (u : Setup) (frame : List ℕ) (k : ℕ) (x : Message) : Type 0 where
  message : x ≡ message_of k frame
  fields : fields_ok k frame ≡ true
  exact : length frame ≡ room_of k frame + 32 * count_of k frame
  log : entries_ok (count_of k frame) (drop (room_of k frame) frame) ≡ true
  sender : (carried_of x).sender < u.n
  op : (carried_of x).op.0 ≤ u.room
  commit : (carried_of x).commit.0 ≤ (carried_of x).op.0

known : (u : Setup) (frame : List ℕ) (k : ℕ) (x : Message) → kind_number (carried_of x).kind ≡ k → check_frame u frame ≡ Ok x → Known u frame k x
known u frame k x e h =
    let f = passed u frame x h in
    let w = f.said.form in
    subst (λ (i : ℕ). Known u frame i x) (sym f.said.kind ∙ e)
    record {
      message = f.said.message;
      fields = w.fields;
      exact = w.exact;
      log = w.log;
      sender = f.sender;
      op = f.op;
      commit = f.commit;
    }

-- the first entry of `part`
first-ok : (part : List ℕ) → Bytes part → entries_ok 1 part ≡ true
    → EntryFits (entry_of part) × (operation_ok (entry_of part).operation (entry_of part).cents ≡ true)
unfolding entries_ok
first-ok part b ok = (entry-fits part b, ok-entry part (and_left _ _ ok))

module _ (u : Setup) (frame : List ℕ) where
  -- ---- Request, Prepare

  module _ (e : Entry) (h : check_frame u frame ≡ Ok (Request e)) where
    request-known : Known u frame 1 (Request e)
    unfolding carried_of
    request-known = known u frame 1 (Request e) refl h

    request-entry : e ≡ entry_of (drop 7 frame)
    unfolding message_of when◌then◌else◌
    request-entry = let q = request-known.message in cc

    pub request-ok : Bytes frame → EntryFits e × (operation_ok e.operation e.cents ≡ true)
    unfolding room_of count_of when◌then◌else◌
    request-ok b = rw request-entry (first-ok (drop 7 frame) (drop-bytes 7 frame b) request-known.log)

  module _ (v : View) (o c : Op) (e : Entry) (h : check_frame u frame ≡ Ok (Prepare v o c e)) where
    prepare-known : Known u frame 2 (Prepare v o c e)
    unfolding carried_of
    prepare-known = known u frame 2 (Prepare v o c e) refl h

    prepare-entry : e ≡ entry_of (drop 19 frame)
    unfolding message_of when◌then◌else◌
    prepare-entry = let q = prepare-known.message in cc

    pub prepare-ok : Bytes frame → EntryFits e × (operation_ok e.operation e.cents ≡ true)
    unfolding room_of count_of when◌then◌else◌
    prepare-ok b = rw prepare-entry (first-ok (drop 19 frame) (drop-bytes 19 frame b) prepare-known.log)

  -- ---- PrepareOk, StartViewChange

  pub ok-fit : (v : View) (o : Op) (r : ℕ) → check_frame u frame ≡ Ok (PrepareOk v o r) → (r < u.n) × (o.0 ≤ u.room)
  unfolding carried_of
  ok-fit v o r h =
      let f = passed u frame (PrepareOk v o r) h in
      (f.sender, f.op)

  pub call-fit : (v : View) (r : ℕ) → check_frame u frame ≡ Ok (StartViewChange v r) → r < u.n
  unfolding carried_of
  call-fit v r h = (passed u frame (StartViewChange v r) h).sender

  -- ---- NewState

  module _ (v : View) (a z c : Op) (h : check_frame u frame ≡ Ok (NewState v a z c)) where
    new-state-known : Known u frame 6 (NewState v a z c)
    unfolding carried_of
    new-state-known = known u frame 6 (NewState v a z c) refl h

    new-state-start : a.0 ≡ num 4 11 frame
    unfolding message_of when◌then◌else◌
    new-state-start = let e = new-state-known.message in cc

    new-state-end : z.0 ≡ num 4 15 frame
    unfolding message_of when◌then◌else◌
    new-state-end = let e = new-state-known.message in cc

    pub new-state-fit : (a.0 ≤ z.0) × ((z.0 ≤ u.room) × ((c.0 ≤ z.0) × (32 * (z.0 - a.0) ≤ length (carried_bytes (NewState v a z c) frame))))
    unfolding carried_bytes carried_of fields_ok room_of count_of when◌then◌else◌
    new-state-fit =
        let f = new-state-known in
        let l : num 4 11 frame ≤ num 4 15 frame = leb-true (num 4 11 frame) (num 4 15 frame) f.fields in
        let e : length frame ≡ 23 + 32 * (num 4 15 frame - num 4 11 frame) = f.exact in (
          rw (new-state-start, new-state-end) l,
          (f.op, (f.commit, rw (new-state-start, new-state-end, length-drop) (omega (arith, e)))),
        )

    pub new-state-ok : entries_ok (z.0 - a.0) (carried_bytes (NewState v a z c) frame) ≡ true
    unfolding carried_bytes carried_of room_of count_of when◌then◌else◌
    new-state-ok = rw (new-state-start, new-state-end) new-state-known.log

  -- ---- DoViewChange

  module _ (v : View) (r : ℕ) (l : View) (o c : Op) (h : check_frame u frame ≡ Ok (DoViewChange v r l o c)) where
    report-known : Known u frame 8 (DoViewChange v r l o c)
    unfolding carried_of
    report-known = known u frame 8 (DoViewChange v r l o c) refl h

    report-op : o.0 ≡ num 4 16 frame
    unfolding message_of when◌then◌else◌
    report-op = let e = report-known.message in cc

    pub report-fit : (r < u.n) × ((o.0 ≤ u.room) × ((c.0 ≤ o.0) × (32 * o.0 ≤ length (carried_bytes (DoViewChange v r l o c) frame))))
    unfolding carried_bytes carried_of room_of count_of when◌then◌else◌
    report-fit =
        let f = report-known in
        let e : length frame ≡ 24 + 32 * num 4 16 frame = f.exact in
        (f.sender, (f.op, (f.commit, rw (report-op, length-drop) (omega (arith, e)))))

    pub report-ok : entries_ok o.0 (carried_bytes (DoViewChange v r l o c) frame) ≡ true
    unfolding carried_bytes carried_of room_of count_of when◌then◌else◌
    report-ok = rw report-op report-known.log

  -- ---- StartView

  module _ (v : View) (o c : Op) (h : check_frame u frame ≡ Ok (StartView v o c)) where
    start-view-known : Known u frame 9 (StartView v o c)
    unfolding carried_of
    start-view-known = known u frame 9 (StartView v o c) refl h

    start-view-op : o.0 ≡ num 4 11 frame
    unfolding message_of when◌then◌else◌
    start-view-op = let e = start-view-known.message in cc

    pub start-view-fit : (o.0 ≤ u.room) × ((c.0 ≤ o.0) × (32 * o.0 ≤ length (carried_bytes (StartView v o c) frame)))
    unfolding carried_bytes carried_of room_of count_of when◌then◌else◌
    start-view-fit =
        let f = start-view-known in
        let e : length frame ≡ 19 + 32 * num 4 11 frame = f.exact in
        (f.op, (f.commit, rw (start-view-op, length-drop) (omega (arith, e))))

    pub start-view-ok : entries_ok o.0 (carried_bytes (StartView v o c) frame) ≡ true
    unfolding carried_bytes carried_of room_of count_of when◌then◌else◌
    start-view-ok = rw start-view-op start-view-known.log

  -- ---- RecoveryResponse

  -- one with a log
  module _ (v : View) (x r : ℕ) (o c : Op) (h : check_frame u frame ≡ Ok (RecoveryResponse v x r (Some (progress o c)))) where
    response-known : Known u frame 11 (RecoveryResponse v x r (Some (progress o c)))
    unfolding carried_of state_row
    response-known = known u frame 11 (RecoveryResponse v x r (Some (progress o c))) refl h

    response-state : Some (progress o c) ≡ response_state frame
    unfolding message_of when◌then◌else◌
    response-state = let e = response-known.message in cc

    -- its mark is 1
    response-mark : (eqb (num 1 20 frame) 1 ≡ true) × (o.0 ≡ num 4 21 frame)
    unfolding response_state
    response-mark =
        split (λ (t : Option Progress). Some (progress o c) ≡ t → (eqb (num 1 20 frame) 1 ≡ true) × (o.0 ≡ num 4 21 frame)) _ _ _
        (λ b e. let q : progress o c ≡ progress (op_at 21 frame) (op_at 25 frame) = cc e in (b, ap (λ (p : Progress). p.op.0) q)) (λ _ e. absurd (cc e)) response-state

    response-long : length frame ≡ 29 + 32 * o.0
    unfolding room_of count_of when◌then◌else◌
    response-long = rw response-mark.0 at response-known.exact ∙ ap (λ (i : ℕ). 29 + 32 * i) (sym response-mark.1)

    response-log : entries_ok o.0 (carried_bytes (RecoveryResponse v x r (Some (progress o c))) frame) ≡ true
    unfolding carried_bytes carried_of state_row room_of count_of when◌then◌else◌
    response-log = rw response-mark.1 (rw response-mark.0 at response-known.log)

  -- what is held of it
  pub response-fit : (v : View) (x r : ℕ) (t : Option Progress) → check_frame u frame ≡ Ok (RecoveryResponse v x r t)
      → (r < u.n)
      × (((response_of v t).op.0 ≤ u.room)
      × (((response_of v t).commit.0 ≤ (response_of v t).op.0) × (32 * (response_of v t).op.0 ≤ length (carried_bytes (RecoveryResponse v x r t) frame))))
  unfolding carried_bytes carried_of state_row response_of
  response-fit v x r None h = ((passed u frame (RecoveryResponse v x r None) h).sender, (omega arith, (omega arith, omega arith)))
  response-fit v x r (Some p) h =
      let f = passed u frame (RecoveryResponse v x r (Some p)) h in
      (f.sender, (f.op, (f.commit, rw length-drop (omega (arith, response-long v x r p.op p.commit h)))))

  pub response-ok : (v : View) (x r : ℕ) (t : Option Progress) → check_frame u frame ≡ Ok (RecoveryResponse v x r t)
      → entries_ok (response_of v t).op.0 (carried_bytes (RecoveryResponse v x r t) frame) ≡ true
  unfolding response_of entries_ok
  response-ok v x r None h = refl
  response-ok v x r (Some p) h = response-log v x r p.op p.commit h
