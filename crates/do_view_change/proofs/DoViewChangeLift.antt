-- send_do_view_change and on_do_view_change, lifted to the model.
--     first-none, first-calls          what goes out first
--     changing-on, changing-stored     the state that start_view_change makes
--     said-shown                       messages go out, and nothing else happens
--     send-shown                       send_do_view_change
--     holding, change-reads            what on_do_view_change and on_start_view_change both need
--     do-view-change-shown             on_do_view_change
-- Assumes nothing.
use Prim.Native.Nat.{ℕ, zero, suc, ◌+◌, ◌*◌, ◌≤◌}
use native.Mathlib.Omega.{arith}
use mathlib.Core.Path.{◌≡◌, refl, sym, ◌∙◌, subst}
use mathlib.Core.Bool.{Bool, true, false, not, false≢true}
use mathlib.Core.List.{List, [], ◌++◌}
use lib.Dec.{ltb, eqb}
use lib.ListN.{length, get_or, take, replicate, length-append}
use lib.Seq.{length-take-le}
use Rattle.numbers.specs.Words.{when◌then◌else◌}
use Rattle.numbers.specs.Numbers.{over, Bytes}
use Rattle.numbers.specs.Cells.{packed}
use Rattle.numbers.specs.declared.View.{View}
use Rattle.numbers.specs.declared.Op.{Op}
use Rattle.numbers.proofs.WordLaws.{split₂, by-or}
use Rattle.numbers.proofs.CellLaws.{cells-length, packed-append}
use Rattle.entries.specs.Entries.{entry_of, entries, entries_ok}
use Rattle.entries.specs.declared.Entry.{Entry}
use Rattle.config.specs.Setup.{primary_of}
use Rattle.config.proofs.SetupLaws.{sized}
use Rattle.frames.specs.declared.Message.TheVariants.{StartViewChange, DoViewChange}
use Rattle.writers.specs.Writers.{encode, size_of, length_of}
use Rattle.writers.proofs.WriterLaws.{encode-length}
use Rattle.book.specs.Memory.{money}
use Rattle.state.specs.State as S
use Rattle.state.specs.State.{leads}
use Rattle.state.specs.Statuses.{is_recovering, no_report}
use Rattle.state.specs.Answers.{refusal, completed}
use Rattle.state.specs.declared.Replica.{Replica}
use Rattle.steps.specs.Steps.{spoke}
use Rattle.state.proofs.SoundLaws.{none-gathered}
use Rattle.view_change.specs.StartView.{LogHeld}
use Rattle.view_change.proofs.StartViewChangeLaws.{calls-long}
use Rattle.do_view_change.specs.Begin.{calls_first, first_length}
use Rattle.steps.specs.Recorded.{Recorded}
use Rattle.do_view_change.specs.Record.{Told, report_of, record_step, report_length, report_to, told_primary, send_step, do_view_change_step}
use Rattle.model.specs.State.{ClientEntry, Book, State, Sent, Reported, Answer, op_of}
use Rattle.model.specs.State.Answer.{done}
use Rattle.model.specs.Sending.{sent_bytes, messages_out, primary, is_primary, to_primary, send_start_view_change, do_view_change_to_primary}
use Rattle.model.specs.ViewChange.{held_by, our_report, changing_to, record_do_view_change, send_do_view_change, on_do_view_change}
use Rattle.layout.specs.Layout.{book_of, model_of}
use Rattle.model.specs.Steps.{fitted}
use Rattle.layout.specs.Shown.{Given, Grew, Shown}
use Rattle.model.proofs.LogLift.{packed-log}
use Rattle.steps.proofs.StepLift.{of_spoke, spoke-shown, no-growth}
use Rattle.steps.proofs.SendLift.{bare-bytes, idle-shown, message-log}
use Rattle.view_change.proofs.StartViewLift.{changing-reads, sent-start-view-shown}
use Rattle.do_view_change.proofs.BeginLift.{memory_of, of_recorded, Changing, First}
use Rattle.do_view_change.proofs.RecordLift.{record-shown}
use Rattle.reports.proofs.StoredLift.{StoredOk}
use Rattle.frames.specs.declared.Refusal.TheVariants.{NoRoomForMessages}

-- nothing goes out first, and StartViewChange of the view that is changed to
pub first-none : (t : Replica) → First t false []
unfolding calls_first first_length when◌then◌else◌ messages_out packed
first-none t = record { bytes = refl; long = refl }

pub first-calls : (c : Given) (t : Replica) → Changing c t → First t true (send_start_view_change t.setup t.view.0)
unfolding calls_first first_length when◌then◌else◌ send_start_view_change
first-calls c t h =
    record {
      bytes = bare-bytes t.setup (StartViewChange t.view t.setup.id);
      long = calls-long t t.view h.gathering.sound.sized;
    }

-- no report breaks refusal 1
none-there : (k i : ℕ) → (get_or (replicate k no_report) i no_report).there ≡ false
none-there zero i = refl
none-there (suc k) zero = refl
none-there (suc k) (suc i) = none-there k i

-- the state that start_view_change makes goes on
pub changing-on : (c : Given) (v : View) → Changing c c.state → Changing c (S.changing_to c.state v)
unfolding is_recovering
changing-on c v h =
    let g = h.gathering in
    record {
      gathering =
          record {
            sound =
                record {
                  sized = g.sound.sized;
                  commit-le = g.sound.commit-le;
                  op_le = g.sound.op_le;
                  log-long = g.sound.log-long;
                  results-long = g.sound.results-long;
                  totals-long = g.sound.totals-long;
                };
            reports = none-gathered c.state.setup;
            acks-long = g.acks-long;
            stored-long = g.stored-long;
          };
      setup = refl;
      op = refl;
      commit = refl;
      takings = refl;
      looks = refl;
      totals = h.totals;
      log-ok = h.log-ok;
      log-bytes = h.log-bytes;
    }

pub changing-stored : (s : Replica) (v : View) (stored : List ℕ) → Bytes stored → StoredOk (S.changing_to s v) stored
changing-stored s v stored b =
    record { logs = λ i lt e. absurd (false≢true (sym (none-there 7 i) ∙ e)); bytes = b; seven = refl }

-- ---- send_do_view_change

-- from a state t to go on from, messages go out and nothing else happens
module _ (c : Given) (t : Replica) (table : List ClientEntry) (applied : List Entry) (h : Changing c t) where
  abbrev now : State
  now = model_of t c.runs table applied

  -- it differs from the state as it was in nothing that the book is read from
  book-same : now.book ≡ (model_of c.state c.runs table applied).book
  unfolding model_of
  book-same =
      λ i. book_of (h.setup i).members (h.op i).0 (h.commit i).0 c.runs.log (money c.runs.results c.runs.totals) (h.takings i) table applied

  now-reads : model_of t c.runs now.book.table now.book.applied ≡ now
  unfolding model_of book_of
  now-reads = refl

  pub said-shown : (ms : List Sent) (w : List ℕ) (k : ℕ) → messages_out ms ≡ w → length w ≡ k
      → Shown c
      (of_spoke c (when ltb (length c.out) k then spoke (refusal NoRoomForMessages c.state) c.out else spoke (completed t k 0 false) (over w c.out)))
      (model_of c.state c.runs table applied).book
      (fitted (length c.out) (length c.reps) (done (model_of t c.runs table applied) ms []))
  said-shown =
      spoke-shown c t (model_of c.state c.runs table applied).book now h.setup now-reads
      (subst (λ (b : Book). Grew b false now.book) book-same (no-growth now.book))

module _ (c : Given) (t : Replica) (table : List ClientEntry) (applied : List Entry) (h : Changing c t) (first : Bool) (ms : List Sent) (f : First t first ms)
    (kept : StoredOk t c.runs.stored) where
  abbrev was : State
  was = model_of t c.runs table applied

  log-long : 32 * t.op.0 ≤ length c.runs.log
  log-long = omega (arith, h.gathering.sound.op_le, h.gathering.sound.log-long)

  report-bytes : messages_out (do_view_change_to_primary t.setup was) ≡ report_to t c.runs.log
  unfolding do_view_change_to_primary to_primary primary op_of model_of book_of report_to
  report-bytes =
      message-log (primary_of t.setup.n t.view) _ (entries t.op.0 c.runs.log)
      ∙ λ i. encode (primary_of t.setup.n t.view)
      (DoViewChange t.view t.setup.id t.normal (record { 0 = cells-length 32 entry_of t.op.0 c.runs.log i }) t.commit)
      (packed-log t.op.0 c.runs.log h.log-ok h.log-bytes log-long i)

  report-long : length (report_to t c.runs.log) ≡ report_length t
  unfolding report_to size_of length_of
  report-long =
      encode-length (primary_of t.setup.n t.view) (DoViewChange t.view t.setup.id t.normal t.op t.commit)
      (take (32 * t.op.0) c.runs.log) (length-take-le (32 * t.op.0) c.runs.log log-long)

  told-bytes : messages_out (ms ++ do_view_change_to_primary t.setup was) ≡ calls_first first t ++ report_to t c.runs.log
  unfolding messages_out
  told-bytes = packed-append sent_bytes ms (do_view_change_to_primary t.setup was) ∙ λ i. f.bytes i ++ report-bytes i

  told-long : length (calls_first first t ++ report_to t c.runs.log) ≡ first_length first t + report_length t
  told-long = length-append (calls_first first t) (report_to t c.runs.log) ∙ λ i. f.long i + report-long i

  own-told : Told t t.setup.id t.op t.commit c.runs.log
  own-told =
      let g = h.gathering.sound in
      record { sender = (sized t.setup g.sized).own; op_le = g.op_le; commit-le = g.commit-le; long = log-long }

  pub send-shown : Shown c (of_recorded (send_step c.state t first (memory_of c)))
      (model_of c.state c.runs table applied).book
      (fitted (length c.out) (length c.reps) (send_do_view_change t.setup (model_of t c.runs table applied) ms))
  unfolding send_step told_primary send_do_view_change leads is_primary primary our_report held_by model_of book_of
  send-shown =
      split₂
      (λ (d : Recorded) (a : Answer).
      Shown c (of_recorded d) (model_of c.state c.runs table applied).book (fitted (length c.out) (length c.reps) a))
      _ _ _ _ _ _ refl
      (λ _.
      record-shown c t table applied h first ms f kept t.setup.id t.normal t.op t.commit c.runs.log own-told
      h.log-ok h.log-bytes)
      (λ _. said-shown c t table applied h _ _ _ told-bytes told-long)

-- ---- on_do_view_change

-- our log, to be sent in a StartView
pub holding : (c : Given) → Changing c c.state → LogHeld c.state (length c.runs.log)
holding c h =
    let g = h.gathering.sound in
    record { sized = g.sized; op_le = g.op_le; log-long = g.log-long }

-- start_view_change, as it is read
pub change-reads : (c : Given) (table : List ClientEntry) (applied : List Entry) (v : View) → Changing c c.state
    → model_of (S.changing_to c.state v) c.runs table applied
    ≡ changing_to c.state.setup (model_of c.state c.runs table applied) v.0
change-reads c table applied v h =
    changing-reads c.state c.runs table applied v (sized c.state.setup h.gathering.sound.sized).seven h.looks

module _ (c : Given) (table : List ClientEntry) (applied : List Entry) (h : Changing c c.state) (kept : StoredOk c.state c.runs.stored) where
  abbrev m : State
  m = model_of c.state c.runs table applied

  module _ (v : View) (r : ℕ) (l : View) (o k : Op) (part : List ℕ) (told : Told c.state r o k part)
      (ok : entries_ok o.0 part ≡ true) (bytes : Bytes part) where
    -- what is reported
    abbrev d : Reported
    d = record { last_normal = l.0; held = record { commit = k.0; log = entries o.0 part } }

    abbrev Goal : Recorded → Answer → Type 0
    Goal x a = Shown c (of_recorded x) m.book (fitted (length c.out) (length c.reps) a)

    -- one of a later view: we start to change to it first
    goal-later : Goal (record_step c.state (S.changing_to c.state v) r (report_of l o k) true part (memory_of c))
        (record_do_view_change c.state.setup (changing_to c.state.setup m v.0) r d (send_start_view_change c.state.setup v.0))
    goal-later =
        let t = S.changing_to c.state v in
        let g = changing-on c v h in
        subst
        (λ (q : State).
        Goal (record_step c.state t r (report_of l o k) true part (memory_of c))
        (record_do_view_change c.state.setup q r d (send_start_view_change c.state.setup v.0)))
        (change-reads c table applied v h)
        (record-shown c t table applied g true (send_start_view_change c.state.setup v.0) (first-calls c t g)
        (changing-stored c.state v c.runs.stored kept.bytes) r l o k part
        (record { sender = told.sender; op_le = told.op_le; commit-le = told.commit-le; long = told.long }) ok bytes)

    pub do-view-change-shown : Shown c (of_recorded (do_view_change_step c.state v r l o k part (memory_of c))) m.book
        (fitted (length c.out) (length c.reps)
        (on_do_view_change c.state.setup m v.0 r
        (record { last_normal = l.0; held = record { commit = k.0; log = entries o.0 part } })))
    unfolding do_view_change_step on_do_view_change primary model_of
    do-view-change-shown =
        subst (Goal (do_view_change_step c.state v r l o k part (memory_of c)))
        (sym (by-or (ltb v.0 c.state.view.0) (not (eqb (primary_of c.state.setup.n v) c.state.setup.id)) _ _))
        (split₂ Goal _ _ _ _ _ _ refl (λ _. idle-shown c table applied) λ _.
        split₂ Goal _ _ _ _ _ _ refl (λ _. idle-shown c table applied) λ _.
        split₂ Goal _ _ _ _ _ _ refl (λ _. goal-later) λ _.
        split₂ Goal _ _ _ _ _ _ refl (λ _. sent-start-view-shown c table applied r (holding c h) h.log-ok h.log-bytes) λ _.
        record-shown c c.state table applied h false [] (first-none c.state) kept r l o k part told ok bytes)
