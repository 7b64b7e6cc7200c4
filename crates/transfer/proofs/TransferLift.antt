-- State transfer, lifted to the model.
--     get-state-shown       on_get_state
--     transfer-tick-shown, backup-tick-shown   a tick in StateTransfer, and a Normal backup's, after which the wait isn't over
--     new-state-shown       on_new_state
-- Assumes nothing.
use Prim.Native.Nat.{ℕ, ◌+◌, ◌-◌, ◌*◌, ◌≤◌, ◌<◌}
use native.Mathlib.Omega.{arith}
use mathlib.Core.Path.{◌≡◌, refl, sym, ap, ◌∙◌, subst}
use mathlib.Core.Bool.{Bool, true, false, not}
use mathlib.Core.List.{List, [], ◌++◌}
use lib.Dec.{ltb, leb, eqb}
use lib.ListN.{length, take, drop, length-drop}
use lib.Seq.{length-take-le}
use borrow.Author.Tests.{ltb-false, leb-false, eqb-true, not-false}
use Rattle.numbers.specs.Words.{when◌then◌else◌, ◌and◌, ◌or◌}
use Rattle.numbers.specs.Numbers.{Bytes}
use Rattle.numbers.specs.declared.View.{View}
use Rattle.numbers.specs.declared.Op.{Op}
use Rattle.numbers.proofs.WordLaws.{if-false, split₂, and_left, and_right, by-or}
use Rattle.numbers.proofs.CellLaws.{cells-length, cells-drop, cells-take}
use Rattle.entries.specs.Entries.{entry_of, entries, entries_ok}
use Rattle.entries.specs.Places.{entry_place}
use Rattle.entries.specs.Rising.{rising}
use Rattle.entries.specs.declared.Entry.{Entry}
use Rattle.entries.proofs.PlaceLaws.{place_is}
use Rattle.config.proofs.SetupLaws.{sized}
use Rattle.clock.specs.declared.Clock.{Clock}
use Rattle.clock.specs.declared.Ticked.{Ticked}
use Rattle.frames.specs.declared.Status.TheVariants.{Normal}
use Rattle.frames.specs.declared.Message.TheVariants.{NewState}
use Rattle.writers.specs.Writers.{encode, size_of, length_of}
use Rattle.writers.proofs.WriterLaws.{encode-length}
use Rattle.book.specs.Log.{rises_after}
use Rattle.state.specs.State as S
use Rattle.state.specs.State.{with_log, normal_in}
use Rattle.state.specs.Statuses.{is_normal, is_changing, is_recovering}
use Rattle.state.specs.Answers.{refusal, quiet}
use Rattle.state.specs.declared.Replica.{Replica}
use Rattle.book.specs.Memory as Memory
use Rattle.steps.specs.Steps.{Sound, Spoke, Left, left, deferred, committed_and_acked, spoke}
use Rattle.transfer.specs.declared.Part.{Part}
use Rattle.transfer.specs.declared.Use.{Use}
use Rattle.transfer.specs.declared.Use.TheVariants.{Ignore, Hear, Fill, Install}
use Rattle.transfer.specs.GetState.{Reading, answers, new_state_length, get_state_step}
use Rattle.transfer.specs.NewState.{PartPassed, transfer_use, change_use, use_of, with_part, extended, gap_filled, installed, by_use, new_state_step}
use Rattle.transfer.specs.Tick.{transfer_tick}
use Rattle.transfer.proofs.GetStateLaws.{has}
use Rattle.transfer.proofs.NewStateLaws.{fill-fits, install-fits}
use Rattle.model.specs.State.{ClientEntry, Book, State, Sent, Answer, ignored, set_place, set_book, set_clock, set_status, op_of}
use Rattle.model.specs.State.Answer.{refused, done}
use Rattle.model.specs.Book.{append_all, commit_up_to, install}
use Rattle.model.specs.Sending.{messages_out, to_primary, send_prepare_ok, send_get_state, send_new_state}
use Rattle.model.specs.Normal.{heard_from_primary, committed, filled_gap, committed_then, on_get_state, fill_gap, caught_up, catch_up, on_new_state}
use Rattle.model.specs.ViewChange.{no_reports, cleared_store, enter_normal}
use Rattle.layout.specs.Layout.{store_of, book_of, model_of}
use Rattle.model.specs.Steps.{fitted, follow_tick}
use Rattle.layout.specs.Shown.{Given, Grew, Shown}
use Rattle.layout.specs.Shown.Grew.{more, anew}
use Rattle.layout.proofs.BookLift.{part-lift, install-lift}
use Rattle.model.proofs.LogLift.{rises-lift, packed-back}
use Rattle.steps.proofs.StepLift.{of_spoke, of_left, book_runs, spoke-shown, quiet-shown, ask-shown, no-growth, reports-cleared}
use Rattle.steps.proofs.StepLift.{ignore-shown, hear-shown}
use Rattle.steps.proofs.AckLift.{with_runs, ack-shown}
use Rattle.steps.proofs.SendLift.{message-log}
use Rattle.frames.specs.declared.Refusal.TheVariants.{NotRising, NoRoomForMessages}

-- tests one after the other, and joined
three-tests : (a b d : Bool) → (when not a then false else when not b then false else d) ≡ (a and b and d)
unfolding when◌then◌else◌ ◌and◌
three-tests true true d = refl
three-tests true false d = refl
three-tests false b d = refl

by_and : {A : Type 0} (a b : Bool) (x y : A) → (when a and b then x else y) ≡ (when a then (when not b then y else x) else y)
unfolding when◌then◌else◌ ◌and◌
by_and true true x y = refl
by_and true false x y = refl
by_and false b x y = refl

-- what refusals 1 to 5 leave; of memory that calls produced, the log rises; and a Recovering replica doesn't look at a NewState
pub record Taken (c : Given) (p : Part) (part : List ℕ) : Type 0 where
  pub sound : Sound c.state (book_runs c.runs)
  pub numbers : PartPassed c.state p
  pub long : 32 * (p.end.0 - p.start.0) ≤ length part
  pub totals : Bytes c.runs.totals
  pub rises : rising (entries c.state.op.0 c.runs.log) ≡ true
  pub looks : is_recovering c.state.status ≡ false

module _ (c : Given) (table : List ClientEntry) (applied : List Entry) where
  abbrev now : State
  now = model_of c.state c.runs table applied

  abbrev fit : Answer → Answer
  fit a = fitted (length c.out) (length c.reps) a

  op-is : op_of now ≡ c.state.op.0
  unfolding op_of model_of book_of
  op-is = cells-length 32 entry_of c.state.op.0 c.runs.log

  same : model_of c.state c.runs now.book.table now.book.applied ≡ now
  unfolding model_of book_of
  same = refl

  -- ---- on_get_state

  module _ (from : ℕ) (v : View) (o : Op) (reading : Reading c.state (length c.runs.log))
      (ok : entries_ok c.state.op.0 c.runs.log ≡ true) (bytes : Bytes c.runs.log) where
    answers-is : answers c.state v o ≡ (is_normal now.place.status and eqb v.0 now.place.view and leb o.0 (op_of now))
    unfolding answers model_of
    answers-is =
        three-tests (is_normal c.state.status) (eqb v.0 c.state.view.0) (leb o.0 c.state.op.0)
        ∙ ap (λ (n : ℕ). is_normal c.state.status and eqb v.0 c.state.view.0 and leb o.0 n) (sym op-is)

    here : answers c.state v o ≡ true → v.0 ≡ c.state.view.0
    unfolding model_of
    here t = eqb-true _ _ (and_left _ _ (and_right _ _ (sym answers-is ∙ t)))

    -- the bytes that it carries
    abbrev carried : List ℕ
    carried = take (32 * (c.state.op.0 - o.0)) (drop (entry_place o.0) c.runs.log)

    new-state-bytes : v.0 ≡ c.state.view.0 → o.0 ≤ c.state.op.0
        → messages_out (send_new_state now from o.0) ≡ encode from (NewState v o c.state.op c.state.commit) carried
    unfolding send_new_state model_of book_of
    new-state-bytes e g =
        message-log from _ (drop o.0 (entries c.state.op.0 c.runs.log))
        ∙ λ i. encode from (NewState (record { 0 = sym e i }) o (record { 0 = op-is i }) c.state.commit)
        (packed-back c.state.op.0 o.0 c.runs.log g ok bytes
        (omega (arith, reading.op_le, reading.log-long, place_is c.state.op.0)) i)

    new-state-long : o.0 ≤ c.state.op.0
        → length (encode from (NewState v o c.state.op c.state.commit) carried) ≡ new_state_length c.state o
    unfolding size_of length_of
    new-state-long g =
        let l : 32 * (c.state.op.0 - o.0) ≤ length (drop (entry_place o.0) c.runs.log) =
        rw length-drop (omega (arith, g, reading.op_le, reading.log-long, place_is o.0)) in
        encode-length from (NewState v o c.state.op c.state.commit) carried (length-take-le _ _ l)

    pub get-state-shown : Shown c (of_spoke c (get_state_step c.state from v o c.runs.log c.out)) now.book
        (fit (on_get_state c.state.setup now from v.0 o.0))
    unfolding get_state_step on_get_state ignored
    get-state-shown =
        split₂ (λ (d : Spoke) (a : Answer). Shown c (of_spoke c d) now.book (fit a)) _ _ _ _ _ _ (ap not answers-is)
        (λ _. quiet-shown c c.state now.book now refl same (no-growth now.book))
        (λ f.
        let g = has c.state v o f in
        spoke-shown c c.state now.book now refl same (no-growth now.book) _ _ (new_state_length c.state o)
        (new-state-bytes (here (not-false _ f)) g) (new-state-long g))

  -- ---- a tick in StateTransfer

  module _ (t : Ticked) (k : Clock) where
    abbrev ticked-on : State
    ticked-on = set_clock now t.clock

    ticked-reads : model_of (S.with_clock c.state t.clock) c.runs ticked-on.book.table ticked-on.book.applied ≡ ticked-on
    unfolding model_of book_of store_of set_clock
    ticked-reads = refl

    ticked-book : ticked-on.book ≡ now.book
    unfolding set_clock
    ticked-book = refl

    -- the GetState names the view alone
    same-ask : send_get_state c.state.setup ticked-on c.state.op.0 ≡ send_get_state c.state.setup now (op_of now)
    unfolding send_get_state to_primary set_clock
    same-ask = ap (send_get_state c.state.setup now) (sym op-is)

    pub transfer-tick-shown : t.up ≡ false → k ≡ t.clock → Shown c (of_spoke c (transfer_tick c.state k c.out)) now.book
        (fit (follow_tick c.state.setup now t (send_get_state c.state.setup now (op_of now))))
    unfolding transfer_tick follow_tick
    transfer-tick-shown f e =
        subst (λ (x : Clock). P x (follow_tick c.state.setup now t (send_get_state c.state.setup now (op_of now)))) (sym e)
        (subst (P t.clock) (sym (if-false _ _ _ f))
        (subst (λ (ms : List Sent). P t.clock (done ticked-on ms [])) same-ask
        (ask-shown c (S.with_clock c.state t.clock) now.book c.state.op ticked-on refl ticked-reads
        (subst (λ (q : Book). Grew now.book false q) (sym ticked-book) (no-growth now.book)))))
      where
        P : Clock → Answer → Type 0
        P x a = Shown c (of_spoke c (transfer_tick c.state x c.out)) now.book (fit a)

    -- a Normal backup's, which sends nothing
    pub backup-tick-shown : t.up ≡ false → k ≡ t.clock → Shown c (of_spoke c (spoke (quiet (S.with_clock c.state k)) c.out)) now.book
        (fit (follow_tick c.state.setup now t []))
    unfolding follow_tick
    backup-tick-shown f e =
        subst (λ (x : Clock). P x (follow_tick c.state.setup now t [])) (sym e)
        (subst (P t.clock) (sym (if-false _ _ _ f))
        (quiet-shown c (S.with_clock c.state t.clock) now.book ticked-on refl ticked-reads
        (subst (λ (q : Book). Grew now.book false q) (sym ticked-book) (no-growth now.book))))
      where
        P : Clock → Answer → Type 0
        P x a = Shown c (of_spoke c (spoke (quiet (S.with_clock c.state x)) c.out)) now.book (fit a)

  -- ---- on_new_state

  module _ (v : View) (p : Part) (part : List ℕ) (h : Taken c p part) where
    abbrev x : Memory.Runs
    x = book_runs c.runs

    abbrev Goal : Use → Answer → Type 0
    Goal z a = Shown c (of_left c (by_use z c.state p part x c.out)) now.book (fit a)

    -- a state t commits over the runs y and acknowledges; refusal 9 leaves all as it was
    abbrev extending : Replica → Memory.Runs → Bool → Left
    extending t y b =
        when ltb (length c.out) 16 then left (refusal NoRoomForMessages c.state) x c.out else committed_and_acked c.state t p.commit b y c.out

    few : c.state.setup.n ≤ 7
    few = (sized c.state.setup h.sound.sized).seven

    goal-ignore : Goal Ignore (ignored now)
    unfolding by_use deferred
    goal-ignore = ignore-shown c table applied v few h.looks

    goal-hear : Goal Hear (ignored (heard_from_primary now))
    unfolding by_use deferred
    goal-hear = hear-shown c table applied v few h.looks

    -- the entries that it carries
    abbrev es : List Entry
    es = entries (p.end.0 - p.start.0) part

    -- ---- in StateTransfer

    -- the model's answer where it appends fs
    abbrev filling : List Entry → Answer
    filling fs =
        when not (rising (now.book.log ++ fs)) then refused NotRising else
        done (filled_gap now p.commit.0 fs) (send_prepare_ok c.state.setup (filled_gap now p.commit.0 fs)) []

    module _ (g : p.start.0 ≤ c.state.op.0) (l : c.state.op.0 < p.end.0) where
      abbrev k : ℕ
      k = p.end.0 - c.state.op.0

      abbrev rest : List ℕ
      rest = drop (32 * (c.state.op.0 - p.start.0)) part

      excess : drop (c.state.op.0 - p.start.0) es ≡ entries k rest
      excess =
          let e : p.end.0 - p.start.0 - (c.state.op.0 - p.start.0) ≡ k = omega (arith, g, l) in
          cells-drop 32 entry_of (p.end.0 - p.start.0) part (c.state.op.0 - p.start.0) ∙ ap (λ (n : ℕ). entries n rest) e

      rest-long : 32 * k ≤ length rest
      rest-long = rw length-drop (omega (arith, g, l, h.long))

      abbrev t : Replica
      t = with_log (S.with_status (S.heard_by c.state) Normal) p.end c.state.commit

      abbrev y : Memory.Runs
      y = with_part c.state.op.0 k rest x

      abbrev more-book : Book
      more-book = append_all now.book (entries k rest)

      fill-book : book_of c.state.setup.members p.end.0 c.state.commit.0 y.log y.money c.state.takings more-book.table applied
          ≡ more-book
      unfolding model_of
      fill-book =
          let e : c.state.op.0 + k ≡ p.end.0 = omega (arith, l) in
          ap (λ (n : ℕ). book_of c.state.setup.members n c.state.commit.0 y.log y.money c.state.takings more-book.table applied) (sym e)
          ∙ part-lift c.state.setup.members c.state.op.0 c.state.commit.0 c.runs.log x.money c.state.takings table applied k rest
          (omega (arith, h.numbers.end-le, h.sound.log-long, place_is (c.state.op.0 + k))) rest-long

      -- the places hold reports before and after
      fill-store : store_of t c.runs.stored ≡ store_of c.state c.runs.stored
      unfolding store_of is_recovering when◌then◌else◌
      fill-store = rw h.looks

      fill-reads : model_of t (with_runs c.runs y) more-book.table applied ≡ set_status (set_book (heard_from_primary now) more-book) Normal
      unfolding model_of set_status set_place set_book heard_from_primary set_clock
      fill-reads =
          λ i. record {
            place = record { status = Normal; view = t.view.0; last_normal = t.normal.0; catching_up = t.catching };
            book = fill-book i;
            votes = record { acks = c.runs.acks; starts = t.starts; sent = t.sent };
            store = fill-store i;
            clock = t.clock;
          }

      fill-grew : Grew now.book false (commit_up_to (model_of t (with_runs c.runs y) more-book.table applied).book p.commit.0)
      unfolding model_of
      fill-grew = more (entries k rest) p.commit.0 refl (ap (λ (q : Book). commit_up_to q p.commit.0) fill-book)

      fill-next : committed (model_of t (with_runs c.runs y) more-book.table applied) p.commit.0
          ≡ filled_gap now p.commit.0 (entries k rest)
      unfolding committed filled_gap set_status set_place set_book heard_from_primary set_clock
      fill-next = ap (λ (m : State). set_book m (commit_up_to m.book p.commit.0)) fill-reads

      fill-rises : rises_after (entries c.state.op.0 c.runs.log) (entries k rest) ≡ rising (now.book.log ++ entries k rest)
      unfolding model_of book_of
      fill-rises =
          let n = c.state.op.0 in
          sym (rises-lift n n k c.runs.log rest h.rises (omega arith))
          ∙ ap (λ (fs : List Entry). rising (fs ++ entries k rest)) (cells-take 32 entry_of n c.runs.log n (omega arith))

      goal-fill : Goal Fill (filling (drop (c.state.op.0 - p.start.0) es))
      unfolding by_use gap_filled extended fitted
      goal-fill =
          let fits = fill-fits c.state p rest x h.sound h.numbers y.log l rest-long refl in
          subst (λ (fs : List Entry). Goal Fill (filling fs)) (sym excess)
          (split₂ (λ (d : Left) (a : Answer). Shown c (of_left c d) now.book (fit a)) _ _ _ _ _ _ (ap not fill-rises)
          (λ _. refl)
          (λ _.
          subst
          (λ (m : State). Shown c (of_left c (extending t y false)) now.book (fit (done m (send_prepare_ok c.state.setup m) [])))
          fill-next
          (ack-shown c t y more-book.table applied p.commit false now.book refl fits.0 h.totals fits.1 fill-grew)))

    -- ---- catching up

    module _ (g : p.start.0 ≡ c.state.commit.0) where
      abbrev j : ℕ
      j = p.end.0 - p.start.0

      abbrev r : Replica
      r = with_log (normal_in c.state c.state.view) p.end c.state.commit

      abbrev z : Memory.Runs
      z = with_part c.state.commit.0 j part x

      abbrev new-book : Book
      new-book = install now.book (committed_then now es)

      install-book : book_of c.state.setup.members p.end.0 c.state.commit.0 z.log z.money c.state.takings new-book.table applied
          ≡ new-book
      unfolding model_of committed_then book_of
      install-book =
          let e : c.state.commit.0 + j ≡ p.end.0 = omega (arith, g, h.numbers.start-le) in
          ap (λ (n : ℕ). book_of c.state.setup.members n c.state.commit.0 z.log z.money c.state.takings new-book.table applied) (sym e)
          ∙ install-lift c.state.setup.members c.state.op.0 c.state.commit.0 c.runs.log x.money c.state.takings table applied
          c.state.commit.0 j part h.sound.commit-le
          (omega (arith, e, h.numbers.end-le, h.sound.log-long, place_is (c.state.commit.0 + j))) h.long

      install-store : store_of r c.runs.stored ≡ cleared_store c.state.setup now
      unfolding model_of store_of cleared_store no_reports is_recovering when◌then◌else◌
      install-store = rw (reports-cleared c.state.setup c.runs.stored few, h.looks)

      install-reads : model_of r (with_runs c.runs z) new-book.table applied
          ≡ enter_normal c.state.setup now now.place.view new-book now.votes.acks
      unfolding model_of enter_normal
      install-reads =
          λ i. record {
            place = record { status = Normal; view = r.view.0; last_normal = r.normal.0; catching_up = false };
            book = install-book i;
            votes = record { acks = c.runs.acks; starts = 0; sent = false };
            store = install-store i;
            clock = r.clock;
          }

      install-grew : Grew now.book true (commit_up_to (model_of r (with_runs c.runs z) new-book.table applied).book p.commit.0)
      unfolding model_of
      install-grew = anew (committed_then now es) p.commit.0 refl (ap (λ (q : Book). commit_up_to q p.commit.0) install-book)

      install-next : committed (model_of r (with_runs c.runs z) new-book.table applied) p.commit.0
          ≡ caught_up c.state.setup now p.commit.0 es
      unfolding committed caught_up enter_normal set_book
      install-next = ap (λ (m : State). set_book m (commit_up_to m.book p.commit.0)) install-reads

      install-rises : rises_after (entries c.state.commit.0 c.runs.log) es ≡ rising (committed_then now es)
      unfolding model_of book_of committed_then
      install-rises = sym (rises-lift c.state.op.0 c.state.commit.0 j c.runs.log part h.rises h.sound.commit-le)

      goal-install : Goal Install
          (when not (rising (committed_then now es)) then refused NotRising else
          done (caught_up c.state.setup now p.commit.0 es)
          (send_prepare_ok c.state.setup (caught_up c.state.setup now p.commit.0 es)) [])
      unfolding by_use installed extended fitted
      goal-install =
          let fits = install-fits c.state p part x h.sound h.numbers z.log g h.long refl in
          split₂ (λ (d : Left) (a : Answer). Shown c (of_left c d) now.book (fit a)) _ _ _ _ _ _ (ap not install-rises)
          (λ _. refl)
          (λ _.
          subst
          (λ (m : State). Shown c (of_left c (extending r z true)) now.book (fit (done m (send_prepare_ok c.state.setup m) [])))
          install-next
          (ack-shown c r z new-book.table applied p.commit true now.book refl fits.0 h.totals fits.1 install-grew))

    -- ---- what it is used for

    -- the model's fill_gap by our op number n
    abbrev gap : ℕ → Answer
    gap n = when ltb n p.start.0 or leb p.end.0 n then ignored (heard_from_primary now) else filling (drop (n - p.start.0) es)

    goal-transfer : Goal (transfer_use c.state p) (fill_gap c.state.setup now p.start.0 p.end.0 p.commit.0 es)
    unfolding transfer_use fill_gap
    goal-transfer =
        let n = c.state.op.0 in
        subst (λ (i : ℕ). Goal (transfer_use c.state p) (gap i)) (sym op-is)
        (subst (Goal (transfer_use c.state p)) (sym (by-or (ltb n p.start.0) (leb p.end.0 n) _ _))
        (split₂ Goal _ _ _ _ _ _ refl (λ _. goal-hear) λ f.
        split₂ Goal _ _ _ _ _ _ refl (λ _. goal-hear) λ k.
        goal-fill (ltb-false _ _ f) (leb-false _ _ k)))

    goal-caught : Goal (when not (eqb p.start.0 c.state.commit.0) then Hear else Install)
        (catch_up c.state.setup now p.start.0 p.commit.0 es)
    unfolding catch_up model_of book_of
    goal-caught = split₂ Goal _ _ _ _ _ _ refl (λ _. goal-hear) λ e. goal-install (eqb-true _ _ (not-false _ e))

    pub new-state-shown : Shown c (of_left c (new_state_step c.state v p part x c.out)) now.book
        (fit (on_new_state c.state.setup now v.0 p.start.0 p.end.0 p.commit.0 es))
    unfolding new_state_step use_of change_use on_new_state model_of
    new-state-shown =
        split₂ Goal _ _ _ _ _ _ refl (λ _. goal-ignore) λ _.
        split₂ Goal _ _ _ _ _ _ refl (λ _. goal-transfer) λ _.
        subst (Goal (when is_changing c.state.status then change_use c.state p else Hear))
        (sym (by_and (is_changing c.state.status) c.state.catching _ _))
        (split₂ Goal _ _ _ _ _ _ refl (λ _. split₂ Goal _ _ _ _ _ _ refl (λ _. goal-hear) (λ _. goal-caught)) (λ _. goal-hear))
