-- on_start_view_change and the ticks that start or repeat a view change, lifted to the model.
--     maybe-shown                                  maybe_send_do_view_change
--     start-view-change-shown                      on_start_view_change
--     next-view-shown, next-view-asking-shown      on_idle where the wait is over
--     change-tick-shown                            on_idle in ViewChange
-- Assumes nothing.
use Prim.Native.Nat.{ℕ, ◌+◌, ◌/◌, ◌<◌}
use mathlib.Core.Path.{◌≡◌, refl, ap, ◌∙◌, subst}
use mathlib.Core.Bool.{Bool, true, false, not}
use mathlib.Core.List.{List, [], ◌++◌}
use Rattle.config.specs.Replicas.{count_below}
use lib.Dec.{ltb, leb}
use lib.ListN.{length, length-append}
use Rattle.numbers.specs.Words.{when◌then◌else◌, ◌and◌}
use Rattle.numbers.specs.Numbers.{over}
use Rattle.numbers.specs.declared.View.{View}
use Rattle.numbers.proofs.WordLaws.{split₂, joined}
use Rattle.numbers.proofs.CellLaws.{cells-length, packed-append}
use Rattle.entries.specs.Entries.{entry_of}
use Rattle.entries.specs.declared.Entry.{Entry}
use Rattle.config.specs.Setup.{primary_of}
use Rattle.config.proofs.SetupLaws.{sized}
use Rattle.clock.specs.declared.Clock.{Clock}
use Rattle.clock.specs.declared.Ticked.{Ticked}
use Rattle.frames.specs.declared.Message.TheVariants.{GetState, StartViewChange}
use Rattle.writers.specs.Writers.{encode}
use Rattle.state.specs.State as S
use Rattle.state.specs.State.{leads}
use Rattle.state.specs.Statuses.{is_normal, is_changing}
use Rattle.state.specs.Answers.{refusal, completed, quiet}
use Rattle.state.specs.declared.Replica.{Replica}
use Rattle.state.specs.Sound.{gathered_ok}
use Rattle.state.proofs.SoundLaws.{start-gathered}
use Rattle.steps.specs.Steps.{Spoke, spoke, asked_for_state}
use Rattle.view_change.specs.StartViewChange.{calls_length, calls_of}
use Rattle.view_change.specs.StartView.{sent_start_view}
use Rattle.view_change.proofs.StartViewChangeLaws.{calls-long}
use Rattle.do_view_change.specs.Begin.{calls_first, first_length}
use Rattle.steps.specs.Recorded.{Recorded, recorded, only_sent}
use Rattle.voting.specs.Votes.{sent_first, report_due, maybe_step, same_view, start_view_change_step}
use Rattle.voting.specs.Tick as T
use Rattle.voting.specs.Tick.{view_after, in_last_view, asked_and_called}
use Rattle.model.specs.State.{ClientEntry, State, Sent, Answer, ignored, set_votes, set_clock, op_of}
use Rattle.model.specs.State.Answer.{done}
use Rattle.model.specs.Sending.{sent_bytes, messages_out, primary, is_primary, to_primary, send_get_state, send_start_view_change, send_start_view}
use Rattle.model.specs.ViewChange.{mark_sent, voted_for, changing_to, send_do_view_change, enough, maybe_send_do_view_change}
use Rattle.model.specs.ViewChange.{start_view_change, on_start_view_change}
use Rattle.layout.specs.Layout.{store_of, book_of, model_of}
use Rattle.model.specs.Steps.{fitted, next_view, change_tick}
use Rattle.layout.specs.Shown.{Given, Shown}
use Rattle.steps.proofs.StepLift.{of_spoke, no-growth, get-state-bytes, get-state-long, ask-shown}
use Rattle.steps.proofs.SendLift.{bare-bytes, still-reads, idle-shown}
use Rattle.view_change.proofs.StartViewLift.{changing-reads, started-change-shown, sent-start-view-shown}
use Rattle.do_view_change.proofs.BeginLift.{memory_of, of_recorded, Changing, First}
use Rattle.do_view_change.proofs.DoViewChangeLift.{first-none, first-calls, changing-on, changing-stored, said-shown, send-shown}
use Rattle.do_view_change.proofs.DoViewChangeLift.{holding, change-reads}
use Rattle.reports.proofs.StoredLift.{StoredOk}
use Rattle.frames.specs.declared.Refusal.TheVariants.{NoRoomForMessages}

-- ---- a state with another clock and other votes goes on as well

abbrev varied : Replica → Clock → (starts : ℕ) (sent : Bool) → Replica
varied t k starts sent = S.with_clock (S.with_votes t starts sent) k

module _ (c : Given) (t : Replica) (k : Clock) (starts : ℕ) (sent : Bool) where
  changing-varied : gathered_ok t.setup starts t.reports.rows ≡ true → Changing c t → Changing c (varied t k starts sent)
  changing-varied votes h =
      let g = h.gathering in
      record {
        gathering =
            record {
              sound =
                  record {
                    sized = g.sound.sized;
                    commit-le = g.sound.commit-le;
                    op_le = g.sound.op_le;
                    log-long = g.sound.log-long;
                    results-long = g.sound.results-long;
                    totals-long = g.sound.totals-long;
                  };
              reports = votes;
              acks-long = g.acks-long;
              stored-long = g.stored-long;
            };
        setup = h.setup;
        op = h.op;
        commit = h.commit;
        takings = h.takings;
        looks = h.looks;
        totals = h.totals;
        log-ok = h.log-ok;
        log-bytes = h.log-bytes;
      }

  stored-varied : (stored : List ℕ) → StoredOk t stored → StoredOk (varied t k starts sent) stored
  stored-varied stored h = record { logs = h.logs; bytes = h.bytes; seven = h.seven }

  first-varied : (first : Bool) (ms : List Sent) → First t first ms → First (varied t k starts sent) first ms
  unfolding calls_first first_length
  first-varied first ms f = record { bytes = f.bytes; long = f.long }

-- ---- maybe_send_do_view_change

-- tests one after the other, and joined
four-tests : (a b d e : Bool) → (when not a then false else when b then false else when d then false else e) ≡ (a and not b and not d and e)
unfolding when◌then◌else◌ ◌and◌
four-tests true true d e = refl
four-tests true false true e = refl
four-tests true false false e = refl
four-tests false b d e = refl

module _ (c : Given) (t : Replica) (table : List ClientEntry) (applied : List Entry) (h : Changing c t) (first : Bool) (ms : List Sent) (f : First t first ms)
    (kept : StoredOk t c.runs.stored) where
  abbrev was : State
  was = model_of t c.runs table applied

  due-is : report_due t ≡ enough t.setup was
  unfolding report_due enough model_of
  due-is = four-tests (is_changing t.status) t.catching t.sent (leb (t.setup.n / 2) (count_below t.setup.n t.starts))

  called-shown : Shown c (of_spoke c (sent_first c.state t first c.out)) (model_of c.state c.runs table applied).book
      (fitted (length c.out) (length c.reps) (done was ms []))
  unfolding sent_first
  called-shown = said-shown c t table applied h _ _ _ f.bytes f.long

  pub maybe-shown : Shown c (of_recorded (maybe_step c.state t first (memory_of c)))
      (model_of c.state c.runs table applied).book
      (fitted (length c.out) (length c.reps) (maybe_send_do_view_change t.setup (model_of t c.runs table applied) ms))
  unfolding maybe_step maybe_send_do_view_change mark_sent set_votes model_of store_of
  maybe-shown =
      split₂
      (λ (d : Recorded) (a : Answer).
      Shown c (of_recorded d) (model_of c.state c.runs table applied).book (fitted (length c.out) (length c.reps) a))
      _ _ _ _ _ _ due-is
      (λ _.
      send-shown c (S.with_sent t) table applied (changing-varied c t t.clock t.starts true h.gathering.reports h) first ms
      (first-varied c t t.clock t.starts true first ms f) (stored-varied c t t.clock t.starts true c.runs.stored kept))
      (λ _. called-shown)

module _ (c : Given) (table : List ClientEntry) (applied : List Entry) (h : Changing c c.state) (kept : StoredOk c.state c.runs.stored) where
  abbrev m : State
  m = model_of c.state c.runs table applied

  abbrev Goal : Recorded → Answer → Type 0
  Goal x a = Shown c (of_recorded x) m.book (fitted (length c.out) (length c.reps) a)

  -- ---- on_start_view_change

  -- the vote of replica r, from a state t that is read as q
  voted : (t : Replica) (q : State) (r : ℕ) (first : Bool) (ms : List Sent) → r < t.setup.n → Changing c t → First t first ms → StoredOk t c.runs.stored
      → model_of t c.runs table applied ≡ q
      → Goal (maybe_step c.state (S.with_start t r) first (memory_of c)) (maybe_send_do_view_change t.setup (voted_for t.setup q r) ms)
  unfolding voted_for set_votes model_of store_of
  voted t q r first ms lt g f s e =
      let k = t.clock in
      let starts = (S.with_start t r).starts in
      subst
      (λ (x : State). Goal (maybe_step c.state (S.with_start t r) first (memory_of c)) (maybe_send_do_view_change t.setup (voted_for t.setup x r) ms)) e
      (maybe-shown c (S.with_start t r) table applied (changing-varied c t k starts t.sent
      (start-gathered t.setup t.starts r t.reports.rows lt g.gathering.reports) g) first ms
      (first-varied c t k starts t.sent first ms f) (stored-varied c t k starts t.sent c.runs.stored s))

  -- one of our view
  goal-same : (r : ℕ) → r < c.state.setup.n
      → Goal (same_view c.state r (memory_of c))
      (when is_changing m.place.status then maybe_send_do_view_change c.state.setup (voted_for c.state.setup m r) [] else
      when is_normal m.place.status and is_primary c.state.setup m then done m (send_start_view m r) [] else
      ignored m)
  unfolding same_view leads is_primary primary model_of
  goal-same r lt =
      split₂ Goal _ _ _ _ _ _ refl (λ _. voted c.state m r false [] lt h (first-none c.state) kept refl) λ _.
      subst
      (Goal
      (when not (is_normal c.state.status) then recorded (quiet c.state) (memory_of c) else
      when leads c.state then only_sent (memory_of c) (sent_start_view c.state r c.runs.log c.out) else
      recorded (quiet c.state) (memory_of c)))
      (joined (is_normal c.state.status) (leads c.state) _ _)
      (split₂ Goal _ _ _ _ _ _ refl (λ _. idle-shown c table applied) λ _.
      split₂ Goal _ _ _ _ _ _ refl
      (λ _. sent-start-view-shown c table applied r (holding c h) h.log-ok h.log-bytes)
      (λ _. idle-shown c table applied))

  pub start-view-change-shown : (v : View) (r : ℕ) → r < c.state.setup.n
      → Shown c (of_recorded (start_view_change_step c.state v r (memory_of c))) m.book
      (fitted (length c.out) (length c.reps) (on_start_view_change c.state.setup m v.0 r))
  unfolding start_view_change_step on_start_view_change model_of
  start-view-change-shown v r lt =
      let t = S.changing_to c.state v in
      let g = changing-on c v h in
      split₂ Goal _ _ _ _ _ _ refl (λ _. idle-shown c table applied) λ _.
      split₂ Goal _ _ _ _ _ _ refl
      (λ _.
      voted t (changing_to c.state.setup m v.0) r true (send_start_view_change c.state.setup v.0) lt g (first-calls c t g)
      (changing-stored c.state v c.runs.stored kept.bytes) (change-reads c table applied v h))
      (λ _. goal-same r lt)

  -- ---- the ticks; k is what the clock's tick gave

  module _ (k : Ticked) where
    abbrev t : Replica
    t = S.with_clock c.state k.clock

    abbrev next : View
    next = view_after c.state

    abbrev Said : Spoke → Answer → Type 0
    Said x a = Shown c (of_spoke c x) m.book (fitted (length c.out) (length c.reps) a)

    pub next-view-shown : Shown c (of_spoke c (T.next_view c.state k.clock c.out)) m.book
        (fitted (length c.out) (length c.reps) (next_view c.state.setup (set_clock m k.clock) []))
    unfolding T.next_view next_view in_last_view fitted set_clock model_of store_of
    next-view-shown =
        split₂ Said _ _ _ _ _ _ refl (λ _. refl)
        (λ _.
        started-change-shown c table applied next t (set_clock m k.clock) h.gathering.sound.sized h.looks refl refl refl refl)

    -- GetState in the view that is left, then StartViewChange
    abbrev ask : List ℕ
    ask = encode (primary_of c.state.setup.n c.state.view) (GetState c.state.setup.id c.state.view c.state.op) []

    ask-bytes : messages_out (send_get_state c.state.setup m (op_of m)) ≡ ask
    unfolding op_of model_of book_of
    ask-bytes =
        ap (λ (o : ℕ). messages_out (send_get_state c.state.setup m o)) (cells-length 32 entry_of c.state.op.0 c.runs.log)
        ∙ get-state-bytes c c.state m.book c.state.op m refl (still-reads c table applied) (no-growth m.book)

    call-bytes : messages_out (send_start_view_change c.state.setup next.0) ≡ calls_of c.state next
    unfolding send_start_view_change
    call-bytes = bare-bytes c.state.setup (StartViewChange next c.state.setup.id)

    asking-bytes : messages_out (send_get_state c.state.setup m (op_of m) ++ send_start_view_change c.state.setup next.0)
        ≡ asked_and_called c.state
    unfolding messages_out asked_and_called
    asking-bytes =
        packed-append sent_bytes (send_get_state c.state.setup m (op_of m)) (send_start_view_change c.state.setup next.0)
        ∙ λ i. ask-bytes i ++ call-bytes i

    asking-long : length (asked_and_called c.state) ≡ 16 + calls_length c.state
    unfolding asked_and_called
    asking-long =
        length-append ask (calls_of c.state next)
        ∙ λ i. get-state-long c c.state m.book c.state.op m refl (still-reads c table applied) (no-growth m.book) i
        + calls-long c.state next h.gathering.sound.sized i

    pub next-view-asking-shown : Shown c (of_spoke c (T.next_view_asking c.state k.clock c.out)) m.book
        (fitted (length c.out) (length c.reps)
        (next_view c.state.setup (set_clock m k.clock) (send_get_state c.state.setup m (op_of m))))
    unfolding T.next_view_asking next_view start_view_change in_last_view fitted set_clock model_of store_of
    next-view-asking-shown =
        let t' = S.changing_to t next in
        let ms = send_get_state c.state.setup m (op_of m) ++ send_start_view_change c.state.setup next.0 in
        split₂ Said _ _ _ _ _ _ refl (λ _. refl)
        (λ _.
        subst
        (λ (q : State).
        Said
        (when ltb (length c.out) (16 + calls_length c.state) then spoke (refusal NoRoomForMessages c.state) c.out else
        spoke (completed t' (16 + calls_length c.state) 0 false) (over (asked_and_called c.state) c.out))
        (done q ms []))
        (changing-reads t c.runs table applied next (sized c.state.setup h.gathering.sound.sized).seven h.looks)
        (said-shown c t' table applied
        (changing-varied c (S.changing_to c.state next) t'.clock 0 false (changing-on c next h).gathering.reports (changing-on c next h)) ms _ _ asking-bytes asking-long))

    -- ---- in ViewChange

    ticked : Changing c t
    ticked = changing-varied c c.state k.clock c.state.starts c.state.sent h.gathering.reports h

    ticked-stored : StoredOk t c.runs.stored
    ticked-stored = stored-varied c c.state k.clock c.state.starts c.state.sent c.runs.stored kept

    goal-ask : Said (asked_for_state c.state t c.state.commit c.out)
        (done (set_clock m k.clock) (send_get_state c.state.setup m m.book.commit) [])
    unfolding send_get_state to_primary set_clock model_of book_of store_of
    goal-ask = ask-shown c t m.book c.state.commit (set_clock m k.clock) refl refl (no-growth m.book)

    abbrev calls : List Sent
    calls = send_start_view_change c.state.setup m.place.view

    -- what was sent is sent again
    abbrev again : Answer
    again =
        when m.place.catching_up then done (set_clock m k.clock) (send_get_state c.state.setup m m.book.commit) [] else
        when m.votes.sent then send_do_view_change c.state.setup (set_clock m k.clock) calls else
        done (set_clock m k.clock) calls []

    goal-again : Goal (T.repeated c.state k.clock (memory_of c)) again
    unfolding T.repeated set_clock model_of store_of
    goal-again =
        split₂ Goal c.state.catching m.place.catching_up _ _ _ _ refl (λ _. goal-ask) λ _.
        split₂ Goal c.state.sent m.votes.sent _ _ _ _ refl
        (λ _. send-shown c t table applied ticked true calls (first-calls c t ticked) ticked-stored)
        (λ _. called-shown c t table applied ticked true calls (first-calls c t ticked) ticked-stored)

    pub change-tick-shown : Shown c (of_recorded (T.change_tick c.state k.clock k.up (memory_of c))) m.book
        (fitted (length c.out) (length c.reps) (change_tick c.state.setup m k))
    unfolding T.change_tick change_tick
    change-tick-shown =
        split₂ Goal k.up k.up
        (only_sent (memory_of c) (T.next_view c.state k.clock c.out)) (T.repeated c.state k.clock (memory_of c))
        (next_view c.state.setup (set_clock m k.clock) []) again refl (λ _. next-view-shown) (λ _. goal-again)
