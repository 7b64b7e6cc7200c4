-- record_do_view_change, lifted to the model: the report is kept, or refusal 7, or the view begins; refusals 9 and 10.
--     record-shown
-- Assumes nothing.
use Prim.Native.Nat.{ℕ, ◌≤◌, ◌<◌}
use native.Mathlib.Omega.{arith}
use mathlib.Core.Path.{◌≡◌, refl, sym, ap, ◌∙◌, subst}
use mathlib.Core.Bool.{Bool, true, false, not}
use mathlib.Core.List.{List, [], ◌++◌}
use mathlib.Core.Option.{Option}
use lib.Dec.{ltb}
use lib.ListN.{length, get_or, set, take}
use borrow.Author.Tests.{ltb-false}
use Rattle.numbers.specs.Words.{when◌then◌else◌}
use Rattle.numbers.specs.Numbers.{over, Bytes}
use Rattle.numbers.specs.Cells.{packed}
use Rattle.numbers.specs.declared.View.{View}
use Rattle.numbers.specs.declared.Op.{Op}
use Rattle.numbers.proofs.WordLaws.{split₂}
use Rattle.numbers.proofs.CellLaws.{cells-length}
use Rattle.entries.specs.Entries.{entry_of, entries, entries_ok}
use Rattle.entries.specs.declared.Entry.{Entry}
use Rattle.entries.proofs.PlaceLaws.{place_is}
use Rattle.book.specs.Log.{with_entries, keeps_first}
use Rattle.book.proofs.LogLaws.{keeps-prefix}
use Rattle.config.specs.Replicas.{quorum_of}
use Rattle.config.specs.declared.Setup.{Setup}
use Rattle.config.proofs.SetupLaws.{Sized, sized}
use Rattle.state.specs.Statuses.{no_report}
use Rattle.state.specs.Lengths.{stored_place}
use Rattle.state.specs.declared.Replica.{Replica}
use Rattle.state.specs.declared.Report.{Report}
use Rattle.reports.specs.Rows.{with_report, filled_in, greatest_in, chosen_from}
use Rattle.reports.specs.Judge.{chosen_log, weighed, judged}
use Rattle.reports.specs.Store.{chosen_over}
use Rattle.reports.specs.declared.Best.{Best}
use Rattle.reports.specs.declared.Judged.{Judged}
use Rattle.reports.specs.declared.Judged.TheVariants.{Wait, Refuse, Begin}
use Rattle.reports.proofs.WholeLaws.{run_of, Whole, new-whole, chosen-whole, lent_is}
use Rattle.do_view_change.specs.Begin.{calls_first, first_length}
use Rattle.do_view_change.specs.Record.{Told, report_of, decided_by, decided, kept_by, started_by, by_decision, record_step}
use Rattle.do_view_change.specs.declared.Decision.{Decision}
use Rattle.do_view_change.specs.declared.Decision.TheVariants.{Keep, No, Start}
use Rattle.model.specs.State as M
use Rattle.model.specs.State.{ClientEntry, Book, State, Sent, Answer, set_store}
use Rattle.model.specs.State.Answer.{refused, done}
use Rattle.model.specs.Book.{commit_up_to, commit_replies, install, agree}
use Rattle.model.specs.Sending.{messages_out, replies_out, start_view_to_others}
use Rattle.model.specs.ViewChange.{filled, chosen, report_noted, cleared_store, enter_normal, started_with}
use Rattle.model.specs.ViewChange.{start_view, start_chosen, record_do_view_change}
use Rattle.layout.specs.Layout.{book_of, model_of}
use Rattle.model.specs.Steps.{fitted}
use Rattle.layout.specs.Shown.{Given, Step, Grew, Did, Shown}
use Rattle.steps.proofs.Held.{gathered-rows}
use Rattle.steps.proofs.SendLift.{told-did, sends-only}
use Rattle.steps.proofs.StepLift.{no-growth}
use Rattle.reports.proofs.StoredLift.{recorded-filled, recorded-greatest, recorded-chosen, recorded-reads, StoredOk}
use Rattle.reports.proofs.ReportLift.{report_in}
use Rattle.reports.proofs.ChosenLift.{run-bytes, keeps-chosen}
use Rattle.do_view_change.proofs.BeginLift.{memory_of, of_recorded, Changing, First, begun-messages, begun-replies, begun-did}
use Rattle.frames.specs.declared.Refusal.TheVariants.{Uncommits, NoRoomForMessages, NoRoomForReplies}
use Rattle.frames.specs.declared.Refusal.{Refusal}

-- the two causes of refusal 7, in either order
swapped : {A : Type 0} (a b : Bool) (x y : A) → (when not a then x else when b then x else y) ≡ (when b then x else when a then y else x)
unfolding when◌then◌else◌
swapped true true x y = refl
swapped true false x y = refl
swapped false true x y = refl
swapped false false x y = refl

module _ (c : Given) (t : Replica) (table : List ClientEntry) (applied : List Entry) (h : Changing c t) (first : Bool) (ms : List Sent) (f : First t first ms)
    (kept : StoredOk t c.runs.stored) where
  abbrev m : State
  m = model_of t c.runs table applied

  -- of replica r: its last normal view, op and commit number, its log in `fresh`
  module _ (r : ℕ) (l : View) (o k : Op) (fresh : List ℕ) (told : Told t r o k fresh) (ok : entries_ok o.0 fresh ≡ true) (bytes : Bytes fresh) where
    abbrev u : Setup
    u = t.setup

    abbrev stored : List ℕ
    stored = c.runs.stored

    abbrev d : Report
    d = report_of l o k

    -- the rows with the new report, and where the log of each lies
    abbrev old : List Report
    old = t.reports.rows

    abbrev rows : List Report
    rows = take u.n (set old r d)

    abbrev run : ℕ → List ℕ
    run i = run_of u stored r fresh i

    -- the model's state with it
    abbrev next : State
    next = report_noted m r (report_in (λ _. fresh) r d)

    size : Sized u
    size = sized u h.gathering.sound.sized

    few : u.n ≤ length old
    few = omega (arith, size.seven, kept.seven)

    row_ok : (i : ℕ) → i < u.n → (get_or old i no_report).there ≡ true → (get_or old i no_report).op.0 ≤ u.room
    row_ok i e p = (gathered-rows u _ old h.gathering.reports i e p).0

    held : stored_place u.room u.n ≤ length stored
    held = omega (arith, h.gathering.stored-long)

    filled-same : filled next.store.reports ≡ filled_in rows
    filled-same = recorded-filled t c.runs table applied h.looks r d fresh told.sender few refl

    -- ---- the decision, shown

    abbrev book : Book
    book = (model_of c.state c.runs table applied).book

    abbrev by : Decision → Step
    by z = of_recorded (by_decision z c.state t (with_report t.reports r d) r o first fresh (memory_of c))

    abbrev Agree : Judged → Answer → Type 0
    Agree j a =
        Shown c (by (decided_by j t first (length c.out) (length c.reps))) book (fitted (length c.out) (length c.reps) a)

    no-shown : (i : Refusal) → Shown c (by (No i)) book (refused i)
    unfolding by_decision
    no-shown i = refl

    refuse-shown : Agree Refuse (refused Uncommits)
    unfolding decided_by fitted
    refuse-shown = no-shown Uncommits

    -- ---- more are waited for

    first-long : length (messages_out ms) ≡ first_length first t
    first-long = ap length f.bytes ∙ f.long

    next-book : book ≡ next.book
    unfolding report_noted set_store model_of book_of
    next-book = rw (h.setup, h.op, h.commit, h.takings)

    abbrev waits : Step
    waits = of_recorded (kept_by t (with_report t.reports r d) r o first fresh (memory_of c))

    wait-reads : model_of waits.answer.state waits.runs next.book.table next.book.applied ≡ next
    unfolding report_noted set_store model_of book_of kept_by
    wait-reads =
        recorded-reads t c.runs table applied h.looks r d fresh told.sender few refl told.op_le told.long held row_ok

    wait-did : Did c waits book next ms []
    unfolding kept_by over replies_out packed
    wait-did =
        told-did c waits.answer.state waits.runs false book next h.setup wait-reads
        (subst (Grew book false) next-book (no-growth book)) ms [] (calls_first first t) [] (first_length first t) 0
        f.bytes f.long refl refl

    wait-shown : Agree Wait (done next ms [])
    unfolding decided_by by_decision
    wait-shown =
        subst (Shown c (by (when ltb (length c.out) (first_length first t) then No NoRoomForMessages else Keep)) book)
        (sym (sends-only (length c.out) (length c.reps) next ms))
        (split₂ (λ (z : Decision) (a : Answer). Shown c (by z) book a) _ _ _ _ _ _ (ap (ltb (length c.out)) (sym first-long))
        (λ _. no-shown NoRoomForMessages) (λ _. wait-did))

    -- ---- a quorum

    abbrev best : Best
    best = chosen_from 0 rows

    best-whole : Whole u stored r fresh best.id best.report
    best-whole =
        chosen-whole u stored r fresh old d (new-whole u stored r fresh d told.sender told.op_le told.long ok)
        (omega (arith, size.three)) few held row_ok kept.logs

    abbrev part : List ℕ
    part = run best.id

    -- its op number, and the greatest commit number
    abbrev bo : Op
    bo = best.report.op

    abbrev g : Op
    g = record { 0 = greatest_in rows }

    part_bytes : Bytes part
    part_bytes = run-bytes u stored r fresh best.id kept.bytes bytes

    abbrev keep : Bool
    keep = keeps_first t.commit.0 c.runs.log bo.0 (chosen_log best r u.room stored fresh)

    keep-is : agree next.book.commit (entries bo.0 part) next.book.log ≡ keep
    unfolding report_noted set_store model_of book_of
    keep-is =
        let s = h.gathering.sound in
        keeps-chosen u stored r fresh best best-whole kept.bytes bytes t.commit.0 t.op.0 c.runs.log h.log-ok h.log-bytes
        s.commit-le (omega (arith, s.op_le, s.log-long, place_is t.op.0))

    -- the book with that log, and the state in which the view begins
    abbrev anew : Book
    anew = install m.book (entries bo.0 part)

    abbrev begun : State
    begun = started_with u m (commit_up_to anew g.0)

    abbrev begins : Answer
    begins = done begun (ms ++ start_view_to_others u begun) (commit_replies m.place.view anew g.0)

    start_is : start_view u next (entries bo.0 part) g.0 ms
        ≡ (when ltb bo.0 g.0 then refused Uncommits else when keep then begins else refused Uncommits)
    unfolding start_view report_noted set_store started_with enter_normal cleared_store
    start_is =
        (λ i.
        when not (keep-is i) then refused Uncommits else
        when ltb (cells-length 32 entry_of bo.0 part i) g.0 then refused Uncommits else
        begins)
        ∙ swapped keep (ltb bo.0 g.0) (refused Uncommits) begins

    chosen-starts : 0 < filled_in rows
        → start_chosen u next (chosen next.store.reports) ms ≡ start_view u next (entries bo.0 part) g.0 ms
    unfolding start_chosen
    chosen-starts e =
        ap (λ (z : Option M.Reported). start_chosen u next z ms)
        (recorded-chosen t c.runs table applied h.looks r d fresh told.sender few refl e)
        ∙ ap (λ (i : ℕ). start_view u next (entries bo.0 part) i ms)
        (recorded-greatest t c.runs table applied h.looks r d fresh told.sender few refl)

    module _ (g-le : g.0 ≤ bo.0) (keeps : keep ≡ true) where
      abbrev w : Whole u stored r fresh best.id best.report
      w = best-whole

      c-le : t.commit.0 ≤ bo.0
      c-le = (keeps-prefix t.commit.0 c.runs.log bo.0 (chosen_log best r u.room stored fresh) keeps).0

      begin-did : Did c (by (Start best g)) book begun (ms ++ start_view_to_others u begun) (commit_replies m.place.view anew g.0)
      unfolding by_decision chosen_over
      begin-did =
          subst
          (λ (x : List ℕ). Did c (of_recorded (started_by t bo g first (with_entries 0 x c.runs.log) (memory_of c))) book begun
          (ms ++ start_view_to_others u begun) (commit_replies m.place.view anew g.0))
          (sym (lent_is u stored r fresh best))
          (begun-did c t table applied h first ms f bo g part w.short c-le g-le w.long w.rules part_bytes)

      begin-shown : Agree (Begin best g) begins
      unfolding decided_by fitted
      begin-shown =
          split₂ (λ (z : Decision) (a : Answer). Shown c (by z) book a) _ _ _ _ _ _
          (ap (ltb (length c.out))
          (sym (begun-messages c t table applied h first ms f bo g part w.short c-le g-le w.long w.rules part_bytes)))
          (λ _. no-shown NoRoomForMessages) λ _.
          split₂ (λ (z : Decision) (a : Answer). Shown c (by z) book a) _ _ _ _ _ _
          (ap (ltb (length c.reps))
          (sym (begun-replies c t table applied h first ms f bo g part w.short c-le g-le w.long w.rules part_bytes)))
          (λ _. no-shown NoRoomForReplies) (λ _. begin-did)

    weigh-shown : 0 < filled_in rows
        → Agree (weighed best g r u.room t.commit.0 c.runs.log stored fresh) (start_chosen u next (chosen next.store.reports) ms)
    unfolding weighed
    weigh-shown e =
        subst (Agree (weighed best g r u.room t.commit.0 c.runs.log stored fresh)) (sym (chosen-starts e ∙ start_is))
        (split₂ Agree _ _ _ _ _ _ refl (λ _. refuse-shown) λ p.
        split₂ Agree _ _ _ _ _ _ refl (λ q. begin-shown (ltb-false bo.0 g.0 p) q) (λ _. refuse-shown))

    pub record-shown : Shown c (of_recorded (record_step c.state t r (report_of l o k) first fresh (memory_of c)))
        (model_of c.state c.runs table applied).book
        (fitted (length c.out) (length c.reps)
        (record_do_view_change t.setup m r
        (record { last_normal = l.0; held = record { commit = k.0; log = entries o.0 fresh } }) ms))
    unfolding record_step decided judged record_do_view_change
    record-shown =
        split₂ Agree _ _ _ _ _ _ (ap (λ (i : ℕ). ltb i (quorum_of u.n)) (sym filled-same)) (λ _. wait-shown)
        (λ e. weigh-shown (omega (arith, ltb-false (filled_in rows) (quorum_of u.n) e)))
