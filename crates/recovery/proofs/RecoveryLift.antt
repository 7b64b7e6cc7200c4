-- Recovery, lifted to the model.
--     recovering-tick-shown    the tick in Recovering
--     recovery-shown           on_recovery
--     response-shown           on_recovery_response
-- Assumes nothing.
use Rattle.std.specs.Prelude.{Option, Some, None}
use Prim.Native.Nat.{ℕ, ◌*◌, ◌≤◌, ◌<◌}
use native.Mathlib.Omega.{arith}
use mathlib.Core.Path.{◌≡◌, refl, sym, ap, ◌∙◌, subst}
use mathlib.Core.Bool.{Bool, true, false, not}
use mathlib.Core.List.{List, []}
use mathlib.Core.Logic.{⊎_elim}
use mathlib.Core.Option.{none, some}
use lib.Dec.{ltb, eqb}
use lib.ListN.{length, get_or, set, take}
use lib.Seq.{length-take-le, get_or-set_same, get_or-set_other}
use borrow.Author.Tests.{ltb-false, le-ltb, eqb-true, not-false}
use Rattle.numbers.specs.Words.{when◌then◌else◌}
use Rattle.numbers.specs.Numbers.{over, Bytes}
use Rattle.numbers.specs.Cells.{packed}
use Rattle.numbers.specs.declared.View.{View}
use Rattle.numbers.specs.declared.Op.{Op}
use Rattle.numbers.proofs.NumberLaws.{eq-or-not}
use Rattle.numbers.proofs.WordLaws.{if-false, split₂, by-not}
use Rattle.numbers.proofs.CellLaws.{cells-length}
use Rattle.entries.specs.Entries.{entry_of, entries, entries_ok}
use Rattle.entries.specs.declared.Entry.{Entry}
use Rattle.entries.proofs.PlaceLaws.{place_is}
use Rattle.config.specs.Setup.{setup_ok}
use Rattle.config.specs.Replicas.{quorum_of}
use Rattle.config.specs.declared.Setup.{Setup}
use Rattle.config.proofs.SetupLaws.{Sized, sized, primary-below}
use Rattle.frames.specs.declared.Progress.{Progress}
use Rattle.frames.specs.declared.Message.{Message}
use Rattle.frames.specs.declared.Message.TheVariants.{Recovery, RecoveryResponse}
use Rattle.writers.specs.Writers.{encode, state_size, size_of, length_of}
use Rattle.writers.proofs.WriterLaws.{encode-length}
use Rattle.book.specs.Log.{with_entries, keeps_first}
use Rattle.book.proofs.LogLaws.{keeps-prefix}
use Rattle.state.specs.State.{leads}
use Rattle.state.specs.Statuses.{is_recovering, no_report}
use Rattle.state.specs.Answers.{completed}
use Rattle.state.specs.Lengths.{stored_place}
use Rattle.state.specs.declared.Replica.{Replica}
use Rattle.state.specs.declared.Report.{Report}
use Rattle.reports.specs.Rows.{with_report, latest_view_in}
use Rattle.reports.specs.Judge.{chosen_log, weighed, primary_row, answered_by_primary, responded}
use Rattle.reports.specs.Store.{chosen_over}
use Rattle.reports.specs.declared.Best.{Best}
use Rattle.reports.specs.declared.Judged.{Judged}
use Rattle.reports.specs.declared.Judged.TheVariants.{Wait, Refuse, Begin}
use Rattle.reports.proofs.WholeLaws.{run_of, Whole, new-whole, row-whole, lent_is}
use Rattle.steps.proofs.Held.{gathered-rows}
use Rattle.steps.specs.Steps.{Spoke, committed_to, settled}
use Rattle.steps.proofs.SendLaws.{bare-long}
use Rattle.view_change.specs.StartView.{LogHeld, LogPassed}
use Rattle.recovery.specs.Recovery.{recoveries_length, recoveries_of, recovering_tick, full_length, full_answer, bare_answer, recovery_step}
use Rattle.recovery.specs.Recovery.{response_of, Collecting, ResponsePassed, Collected, collected, back_in}
use Rattle.recovery.specs.Recovery.{recovered_by, by_response, collected_by, response_step}
use Rattle.model.specs.State.{view_of, op_number, ClientEntry, Held, Response, State, Sent, Answer, op_of, ignored, set_store}
use Rattle.model.specs.State.Answer.{refused, done}
use Rattle.model.specs.Book.{agree}
use Rattle.model.specs.Sending.{messages_out, replies_out, send, primary, is_primary, send_recovery, send_recovery_response}
use Rattle.model.specs.ViewChange.{cleared_store, enter_normal}
use Rattle.model.specs.Recovery.{latest_view, noted, forgotten, on_recovery}
use Rattle.model.specs.Recovery.{recovered, recover_with, recover_from, recover_latest, on_recovery_response}
use Rattle.layout.specs.Layout.{store_of, book_of, model_of}
use Rattle.model.specs.Steps.{fitted, held_in}
use Rattle.layout.specs.Shown.{Given, Step, Did, Shown}
use Rattle.steps.proofs.StepLift.{of_spoke, book_runs, spoke-shown, one-message, no-growth}
use Rattle.steps.proofs.SendLift.{bare-bytes, still-reads, idle-shown, told-did, silent, message-log}
use Rattle.model.proofs.LogLift.{packed-log}
use Rattle.view_change.proofs.StartViewLift.{started-change-shown}
use Rattle.reports.proofs.ReportLift as R
use Rattle.reports.proofs.ReportLift.{response_in}
use Rattle.reports.proofs.ChosenLift.{keeps-chosen}
use Rattle.recovery.proofs.NotedLift.{response-there, response-is, noted-filled, noted-latest, noted-place, noted-reads}
use Rattle.recovery.proofs.RecoveredLift.{recovered-did}
use Rattle.reports.proofs.StoredLift.{StoredOk}
use Rattle.frames.specs.declared.Refusal.TheVariants.{Uncommits}
use Rattle.frames.specs.Messages.{progress}

-- what a step leaves that changes log, results, totals and the stored logs
abbrev pub of_collected : Given → Collected → Step
of_collected c d =
    record {
      answer = d.answer;
      runs =
          record {
            log = d.runs.log;
            results = d.runs.money.results;
            totals = d.runs.money.totals;
            acks = c.runs.acks;
            stored = d.stored;
          };
      out = c.out;
      reps = c.reps;
    }

-- what the model does with a place that may be empty, and with a response that may carry no state
from_row : (u : Setup) (m : State) (w : ℕ) (b : Bool) (a : Response)
    → recover_from u m w (when b then some a else none) ≡ (when not b then ignored m else recover_with u m w a.view a.held)
unfolding recover_from when◌then◌else◌
from_row u m w true a = refl
from_row u m w false a = refl

with_row : (u : Setup) (m : State) (w v : ℕ) (b : Bool) (h : Held)
    → recover_with u m w v (when b then some h else none)
    ≡ (when not b then ignored m else
    when not (eqb v w) then ignored m else
    when not (agree m.book.commit h.log m.book.log) then refused Uncommits else
    when ltb w m.place.view then refused Uncommits else
    done (recovered u m w h) [] [])
unfolding recover_with when◌then◌else◌
with_row u m w v true h = refl
with_row u m w v false h = refl

module _ (c : Given) (table : List ClientEntry) (applied : List Entry) where
  abbrev m : State
  m = model_of c.state c.runs table applied

  abbrev s : Replica
  s = c.state

  -- ---- send_recovery

  recoveries-bytes : messages_out (send_recovery s.setup m) ≡ recoveries_of s
  unfolding send_recovery model_of store_of
  recoveries-bytes = bare-bytes s.setup (Recovery s.setup.id s.nonce s.view)

  recoveries-long : setup_ok s.setup ≡ true → length (recoveries_of s) ≡ recoveries_length s
  unfolding size_of length_of
  recoveries-long ok = bare-long s.setup ok (Recovery s.setup.id s.nonce s.view) refl

  pub recovering-tick-shown : setup_ok c.state.setup ≡ true
      → Shown c (of_spoke c (recovering_tick c.state c.out)) m.book
      (fitted (length c.out) (length c.reps) (done m (send_recovery c.state.setup m) []))
  unfolding recovering_tick
  recovering-tick-shown ok =
      spoke-shown c s m.book m refl (still-reads c table applied) (no-growth m.book) _ _ (recoveries_length s)
      recoveries-bytes (recoveries-long ok)

  -- ---- on_recovery

  module _ (r x : ℕ) where
    abbrev bare : Message
    bare = RecoveryResponse s.view x s.setup.id None

    abbrev full : Message
    full = RecoveryResponse s.view x s.setup.id (Some (progress s.op s.commit))

    -- a backup's answer
    bare-long-is : length (encode r bare []) ≡ 21
    unfolding size_of state_size length_of
    bare-long-is = encode-length r bare [] refl

    bare-shown : Shown c (of_spoke c (bare_answer s r x c.out)) m.book
        (fitted (length c.out) (length c.reps) (done m (send r bare []) []))
    unfolding bare_answer
    bare-shown =
        spoke-shown c s m.book m refl (still-reads c table applied) (no-growth m.book) _ _ 21 (one-message r bare) bare-long-is

    -- the primary's
    module _ (h : LogHeld s (length c.runs.log)) (ok : entries_ok s.op.0 c.runs.log ≡ true) (bytes : Bytes c.runs.log) where
      log-long : 32 * s.op.0 ≤ length c.runs.log
      log-long = omega (arith, h.op_le, h.log-long)

      abbrev tells : List Sent
      tells =
          send r (RecoveryResponse s.view x s.setup.id (Some (progress (op_number (op_of m)) (op_number m.book.commit)))) m.book.log

      full-bytes : messages_out tells ≡ encode r full (take (32 * s.op.0) c.runs.log)
      unfolding op_of model_of book_of
      full-bytes =
          message-log r _ (entries s.op.0 c.runs.log)
          ∙ λ i. encode r
          (RecoveryResponse s.view x s.setup.id (Some (progress (op_number (cells-length 32 entry_of s.op.0 c.runs.log i)) s.commit)))
          (packed-log s.op.0 c.runs.log ok bytes log-long i)

      full-long : length (encode r full (take (32 * s.op.0) c.runs.log)) ≡ full_length s
      unfolding size_of state_size length_of
      full-long =
          encode-length r full (take (32 * s.op.0) c.runs.log) (length-take-le (32 * s.op.0) c.runs.log log-long)

      full-shown : Shown c (of_spoke c (full_answer s r x c.runs.log c.out)) m.book
          (fitted (length c.out) (length c.reps) (done m tells []))
      unfolding full_answer
      full-shown =
          spoke-shown c s m.book m refl (still-reads c table applied) (no-growth m.book) _ _ (full_length s) full-bytes full-long

      abbrev Agree : Spoke → Answer → Type 0
      Agree d a = Shown c (of_spoke c d) m.book (fitted (length c.out) (length c.reps) a)

      response-sent : Agree (when leads s then full_answer s r x c.runs.log c.out else bare_answer s r x c.out)
          (done m (send_recovery_response s.setup m r x) [])
      unfolding send_recovery_response is_primary primary leads model_of
      response-sent =
          split₂ (λ (d : Spoke) (ms : List Sent). Agree d (done m ms [])) _ _ _ _ _ _ refl (λ _. full-shown) (λ _. bare-shown)

  pub recovery-shown : (r x : ℕ) (v : View) → LogHeld c.state (length c.runs.log) → is_recovering c.state.status ≡ false
      → entries_ok c.state.op.0 c.runs.log ≡ true → Bytes c.runs.log
      → Shown c (of_spoke c (recovery_step c.state r x v c.runs.log c.out)) m.book
      (fitted (length c.out) (length c.reps) (on_recovery c.state.setup m r x v.0))
  unfolding recovery_step on_recovery model_of
  recovery-shown r x v h looks ok bytes =
      split₂ (Agree r x h ok bytes) _ _ _ _ _ _ refl
      (λ _. started-change-shown c table applied v s m h.sized looks refl refl refl refl) λ _.
      split₂ (Agree r x h ok bytes) _ _ _ _ _ _ refl (λ _. idle-shown c table applied) (λ _. response-sent r x h ok bytes)

  -- what refusal 1 and the frame's own leave, and the rules of the entries
  module _ (v : View) (x r : ℕ) (state : Option Progress) (part : List ℕ)
      (h : Collecting c.state (book_runs c.runs) (length c.runs.stored)) (told : ResponsePassed c.state r (response_of v state) (length part))
      (recovering : is_recovering c.state.status ≡ true) (totals : Bytes c.runs.totals) (kept : StoredOk c.state c.runs.stored)
      (log-ok : entries_ok c.state.op.0 c.runs.log ≡ true) (log-bytes : Bytes c.runs.log)
      (part-ok : entries_ok (response_of v state).op.0 part ≡ true) (part_bytes : Bytes part) where
    abbrev u : Setup
    u = s.setup

    abbrev stored : List ℕ
    stored = c.runs.stored

    abbrev d : Report
    d = response_of v state

    -- the rows with the new response, and where the log of each lies
    abbrev old : List Report
    old = s.reports.rows

    abbrev all : List Report
    all = set old r d

    abbrev rows : List Report
    rows = take u.n all

    abbrev run : ℕ → List ℕ
    run i = run_of u stored r part i

    -- the model's state with it
    abbrev next : State
    next = noted m r (response_in (λ _. part) r d)

    there : d.there ≡ true
    there = response-there v state

    size : Sized u
    size = sized u h.sound.sized

    few : u.n ≤ length old
    few = omega (arith, size.seven, kept.seven)

    row_ok : (i : ℕ) → i < u.n → (get_or old i no_report).there ≡ true → (get_or old i no_report).op.0 ≤ u.room
    row_ok i e p = (gathered-rows u _ old h.reports i e p).0

    -- no response commits more than it holds
    row-commit : (i : ℕ) → i < u.n → (get_or all i no_report).there ≡ true → (get_or all i no_report).commit.0 ≤ (get_or all i no_report).op.0
    row-commit i e =
        ⊎_elim (λ q. rw (q, get_or-set_same old r d no_report (omega (arith, told.sender, few))) (λ _. told.commit-le))
        (λ q. rw (get_or-set_other old r i d no_report q)
        (λ p. (gathered-rows u _ old h.reports i e p).1))
        (eq-or-not i r)

    held : stored_place u.room u.n ≤ length stored
    held = omega (arith, h.stored-long)

    -- ---- what a judgement leads to, shown

    abbrev by : Judged → Step
    by j = of_collected c (by_response j s (with_report s.reports r d) r d.op part (book_runs c.runs) stored)

    abbrev Gives : Judged → Answer → Type 0
    Gives j a = Shown c (by j) m.book (fitted (length c.out) (length c.reps) a)

    refuse-shown : Gives Refuse (refused Uncommits)
    unfolding by_response fitted
    refuse-shown = refl

    wait-reads : model_of (by Wait).answer.state (by Wait).runs next.book.table next.book.applied ≡ next
    unfolding by_response noted set_store model_of book_of
    wait-reads =
        noted-reads s c.runs table applied recovering r d part told.sender few there told.op_le told.long held row_ok

    wait-did : Did c (by Wait) m.book next [] []
    unfolding by_response noted set_store over messages_out replies_out packed
    wait-did =
        told-did c (by Wait).answer.state (by Wait).runs false m.book next refl wait-reads (no-growth m.book) [] [] [] [] 0 0
        refl refl refl refl

    wait-shown : Gives Wait (ignored next)
    unfolding ignored
    wait-shown = subst (Shown c (by Wait) m.book) (sym (silent (length c.out) (length c.reps) next)) wait-did

    -- ---- the response of the primary of view w, the latest, which isn't below ours

    module _ (w : ℕ) (g : s.view.0 ≤ w) where
      abbrev best : Best
      best = primary_row (with_report s.reports r d) u.n w

      abbrev o : Op
      o = best.report.op

      abbrev part' : List ℕ
      part' = run best.id

      -- what it carries
      abbrev carried : Held
      carried = R.held_in run best.id best.report

      abbrev keep : Bool
      keep = keeps_first s.commit.0 c.runs.log o.0 (chosen_log best r u.room stored part)

      -- the judgement where it is of view w and carries a state, and the model's answer there
      abbrev weighs : Judged
      weighs = weighed best best.report.commit r u.room s.commit.0 c.runs.log stored part

      abbrev ends : Answer
      ends =
          when not (agree next.book.commit carried.log next.book.log) then refused Uncommits else
          when ltb w next.place.view then refused Uncommits else
          done (recovered u next w carried) [] []

      below : best.id < u.n
      below = primary-below u.n (view_of w) (omega (arith, size.three))

      module _ (answers : best.report.there ≡ true) where
        whole : Whole u stored r part best.id best.report
        whole =
            row-whole u stored r part old d (new-whole u stored r part d told.sender told.op_le told.long part-ok)
            (omega (arith, size.three)) few held row_ok kept.logs best.id below answers

        keep-is : agree next.book.commit carried.log next.book.log ≡ keep
        unfolding noted set_store model_of book_of
        keep-is =
            let q = h.sound in
            keeps-chosen u stored r part best whole kept.bytes part_bytes s.commit.0 s.op.0 c.runs.log log-ok log-bytes
            q.commit-le (omega (arith, q.op_le, q.log-long, place_is s.op.0))

        numbers : LogPassed s o best.report.commit
        numbers = record { op_le = whole.short; commit-le = row-commit best.id below answers }

        begin-did : keep ≡ true
            → Did c (by (Begin best best.report.commit)) m.book (recovered u next best.report.view.0 carried) [] []
        unfolding by_response recovered_by chosen_over recovered forgotten noted set_store enter_normal cleared_store
        begin-did k =
            subst
            (λ (y : List ℕ).
            Did c (of_collected c (collected (completed (committed_to (back_in s best) best.report.commit (record { log = with_entries 0 y c.runs.log; money = (book_runs c.runs).money })) 0 0 true)
            (settled (back_in s best) best.report.commit (record { log = with_entries 0 y c.runs.log; money = (book_runs c.runs).money }))
            stored)) m.book (recovered u m best.report.view.0 carried) [] [])
            (sym (lent_is u stored r part best))
            (recovered-did c table applied h.sound totals best.report.view o best.report.commit part' numbers
            (keeps-prefix s.commit.0 c.runs.log o.0 (chosen_log best r u.room stored part) k).0 whole.long)

        begin-shown : best.report.view.0 ≡ w → keep ≡ true → Gives (Begin best best.report.commit) (done (recovered u next w carried) [] [])
        begin-shown e k =
            subst (λ (i : ℕ). Gives (Begin best best.report.commit) (done (recovered u next i carried) [] [])) e
            (subst (Shown c (by (Begin best best.report.commit)) m.book)
            (sym (silent (length c.out) (length c.reps) (recovered u next best.report.view.0 carried))) (begin-did k))

        -- the first cause of refusal 7, a commit number past the log, never holds
        weigh-is : weighs ≡ (when not keep then Refuse else Begin best best.report.commit)
        unfolding weighed
        weigh-is =
            if-false _ _ _ (le-ltb o.0 best.report.commit.0 numbers.commit-le)
            ∙ by-not keep (Begin best best.report.commit) Refuse

        -- nor does the model's second, a view that falls
        weigh-shown : best.report.view.0 ≡ w → Gives weighs ends
        unfolding noted set_store model_of
        weigh-shown e =
            subst (λ (j : Judged). Gives j ends) (sym weigh-is)
            (split₂ Gives _ _ _ _ _ _ (ap not (sym keep-is)) (λ _. refuse-shown)
            (λ f. subst (Gives (Begin best best.report.commit)) (sym (if-false (ltb w s.view.0) (refused Uncommits) _ (le-ltb w s.view.0 g)))
            (begin-shown e (not-false keep f))))

      -- where its sender was in view w
      stated-shown : best.report.there ≡ true
          → Gives (when eqb best.report.view.0 w then weighs else Wait) (when not (eqb best.report.view.0 w) then ignored next else ends)
      stated-shown answers =
          subst (λ (j : Judged). Gives j (when not (eqb best.report.view.0 w) then ignored next else ends))
          (sym (by-not (eqb best.report.view.0 w) weighs Wait))
          (split₂ Gives _ _ _ _ _ _ refl (λ _. wait-shown)
          (λ f. weigh-shown answers (eqb-true best.report.view.0 w (not-false (eqb best.report.view.0 w) f))))

      answered-is : recover_from u next w (get_or next.store.responses (primary u w) none)
          ≡ (when not best.report.there then ignored next else
          when not best.report.full then ignored next else
          when not (eqb best.report.view.0 w) then ignored next else
          ends)
      unfolding primary
      answered-is =
          ap (recover_from u next w) (noted-place s c.runs table applied recovering r d part told.sender few there best.id below)
          ∙ from_row u next w best.report.there (response_in run best.id best.report)
          ∙ ap (λ (a : Answer). when not best.report.there then ignored next else a)
          (with_row u next w best.report.view.0 best.report.full carried)

      answered-shown : Gives (answered_by_primary best w r u.room s.commit.0 c.runs.log stored part)
          (recover_from u next w (get_or next.store.responses (primary u w) none))
      unfolding answered_by_primary
      answered-shown =
          subst (Gives (answered_by_primary best w r u.room s.commit.0 c.runs.log stored part)) (sym answered-is)
          (split₂ Gives _ _ _ _ _ _ refl (λ _. wait-shown) λ e.
          split₂ Gives _ _ _ _ _ _ refl (λ _. wait-shown) (λ _. stated-shown (not-false best.report.there e)))

    -- ---- a quorum, and the latest view

    abbrev judges : Judged
    judges = responded (with_report s.reports r d) u.n r u.room s.view.0 s.commit.0 c.runs.log stored part

    next-view : s.view.0 ≡ next.place.view
    unfolding noted set_store model_of
    next-view = refl

    latest-shown : Gives judges (recover_latest u next (latest_view_in rows))
    unfolding responded recover_latest
    latest-shown =
        split₂ Gives _ _ _ _ _ _
        (ap (λ (i : ℕ). ltb i (quorum_of u.n))
        (sym (noted-filled s c.runs table applied recovering r d part told.sender few there))) (λ _. wait-shown) λ _.
        split₂ Gives _ _ _ _ _ _ (ap (ltb (latest_view_in rows)) next-view) (λ _. wait-shown) (λ f. answered-shown (latest_view_in rows) (ltb-false _ _ f))

    collected-shown : Shown c (of_collected c (collected_by s r d part (book_runs c.runs) stored)) m.book
        (fitted (length c.out) (length c.reps)
        (recover_latest u (noted m r (record { view = v.0; held = held_in state (entries d.op.0 part) }))
        (latest_view (noted m r (record { view = v.0; held = held_in state (entries d.op.0 part) })).store.responses)))
    unfolding collected_by
    collected-shown =
        subst (λ (a : Response). Gives judges (recover_latest u (noted m r a) (latest_view (noted m r a).store.responses)))
        (sym (response-is v state r part))
        (subst (λ (i : ℕ). Gives judges (recover_latest u next i))
        (sym (noted-latest s c.runs table applied recovering r d part told.sender few there)) latest-shown)

    pub response-shown : Shown c (of_collected c (response_step c.state v x r state part (book_runs c.runs) c.runs.stored)) m.book
        (fitted (length c.out) (length c.reps)
        (on_recovery_response c.state.setup m v.0 x r (held_in state (entries (response_of v state).op.0 part))))
    unfolding response_step on_recovery_response model_of store_of
    response-shown =
        split₂ (λ (z : Collected) (a : Answer). Shown c (of_collected c z) m.book (fitted (length c.out) (length c.reps) a)) _ _ _ _ _ _ refl
        (λ _. idle-shown c table applied) (λ _. collected-shown)
