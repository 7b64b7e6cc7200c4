-- A view that is left, and one that was started, lifted to the model.
--     started-change-shown     start_view_change
--     sent-start-view-shown    send_start_view
--     start-view-shown         on_start_view
-- Assumes nothing.
use Prim.Native.Nat.{ℕ, ◌*◌, ◌≤◌}
use native.Mathlib.Nat.{zero-add}
use native.Mathlib.Omega.{arith}
use mathlib.Core.Path.{◌≡◌, refl, sym, ap, ◌∙◌, subst}
use mathlib.Core.Bool.{Bool, true, false, not}
use mathlib.Core.List.{List, []}
use lib.Dec.{ltb, eqb}
use lib.ListN.{length, take, replicate, length-replicate}
use lib.Seq.{length-take-le}
use borrow.Author.Tests.{ltb-true, ltb-false, eq-eqb, ne_eqb, not-false}
use Rattle.numbers.specs.Words.{when◌then◌else◌, ◌and◌}
use Rattle.numbers.specs.Numbers.{over, Bytes}
use Rattle.numbers.specs.declared.View.{View}
use Rattle.numbers.specs.declared.Op.{Op}
use Rattle.numbers.proofs.WordLaws.{if-false, split, split₂, by-not}
use Rattle.numbers.proofs.CellLaws.{cells-length}
use Rattle.entries.specs.Entries.{entry_of, entries, entries_ok}
use Rattle.entries.specs.declared.Entry.{Entry}
use Rattle.entries.proofs.PlaceLaws.{place_is}
use Rattle.config.specs.Setup.{setup_ok}
use Rattle.config.specs.declared.Setup.{Setup}
use Rattle.config.proofs.SetupLaws.{sized}
use Rattle.frames.specs.declared.Status.TheVariants.{Normal}
use Rattle.frames.specs.declared.Message.TheVariants.{StartViewChange, StartView}
use Rattle.writers.specs.Writers as W
use Rattle.writers.specs.Writers.{encode, size_of, length_of}
use Rattle.writers.proofs.WriterLaws.{encode-length}
use Rattle.book.specs.Log.{keeps_first}
use Rattle.book.proofs.LogLaws.{keeps-prefix}
use Rattle.state.specs.State as S
use Rattle.state.specs.State.{with_log, normal_in}
use Rattle.state.specs.Statuses.{is_changing, is_recovering}
use Rattle.state.specs.Lengths.{acks_length}
use Rattle.state.specs.declared.Replica.{Replica}
use Rattle.book.specs.Memory as Memory
use Rattle.steps.specs.Steps.{Sound}
use Rattle.view_change.specs.StartViewChange.{calls_length, calls_of, started_change}
use Rattle.view_change.specs.StartView.{LogHeld, LogPassed, start_view_length, sent_start_view, keep_verdict, start_view_verdict, Joined, with_log_of, joined_by, by_start_view_verdict, start_view_step}
use Rattle.view_change.specs.declared.StartViewVerdict.{StartViewVerdict}
use Rattle.view_change.specs.declared.StartViewVerdict.TheVariants.{Ignore, Refuse, Join}
use Rattle.view_change.proofs.StartViewChangeLaws.{calls-long}
use Rattle.view_change.proofs.StartViewLaws.{part-fits, joins-sound}
use Rattle.model.specs.State.{ClientEntry, Book, State, Sent, Reply, Answer, ignored, set_book, op_of}
use Rattle.model.specs.State.Answer.{refused, done}
use Rattle.model.specs.Book.{commit_up_to, install, agree}
use Rattle.model.specs.Sending.{messages_out, send_prepare_ok, send_start_view_change, start_view_of, send_start_view}
use Rattle.model.specs.Normal.{committed}
use Rattle.model.specs.ViewChange.{no_reports, no_acks, cleared_votes, cleared_store, enter_normal, changing_to, start_view_change, joined, on_start_view}
use Rattle.layout.specs.Layout.{LentRuns, store_of, book_of, model_of}
use Rattle.model.specs.Steps.{fitted}
use Rattle.layout.specs.Shown.{Given, Step, Grew, Did, Shown}
use Rattle.layout.specs.Shown.Grew.{anew}
use Rattle.layout.proofs.BookLift.{install-lift}
use Rattle.model.proofs.LogLift.{packed-log, keeps-lift}
use Rattle.layout.proofs.RowLift.{none-and}
use Rattle.steps.proofs.StepLift.{of_spoke, book_runs, spoke-shown, no-growth, reports-cleared, kept-reads, kept-grew}
use Rattle.steps.proofs.AckLift.{with_runs, ok-long, acked-did}
use Rattle.steps.proofs.SendLift.{bare-bytes, sends-only, still-reads, idle-shown, message-log}
use Rattle.numbers.proofs.RunLaws.{over-all}
use Rattle.frames.specs.declared.Refusal.TheVariants.{Uncommits}

-- ---- start_view_change

pub changing-reads : (s : Replica) (x : LentRuns) (table : List ClientEntry) (applied : List Entry) (v : View) → s.setup.n ≤ 7
    → is_recovering s.status ≡ false
    → model_of (S.changing_to s v) x table applied ≡ changing_to s.setup (model_of s x table applied) v.0
unfolding model_of store_of changing_to cleared_votes cleared_store no_reports is_recovering when◌then◌else◌
changing-reads s x table applied v h r = rw (reports-cleared s.setup x.stored h, r)

changing-book : (u : Setup) (m : State) (w : ℕ) → (changing_to u m w).book ≡ m.book
unfolding changing_to
changing-book u m w = refl

-- from a state t, read as m₁, that differs in its clock at most
module _ (c : Given) (table : List ClientEntry) (applied : List Entry) (v : View) (t : Replica) (m₁ : State) (ok : setup_ok c.state.setup ≡ true)
    (looks : is_recovering c.state.status ≡ false) (same : t.setup ≡ c.state.setup) (status : t.status ≡ c.state.status) where
  abbrev now : State
  now = model_of c.state c.runs table applied

  abbrev u : Setup
  u = c.state.setup

  calls-bytes : messages_out (send_start_view_change u v.0) ≡ calls_of t v
  unfolding send_start_view_change
  calls-bytes =
      bare-bytes u (StartViewChange v u.id)
      ∙ λ i. W.to_others (sym same i).n (sym same i).id (StartViewChange v (sym same i).id) []

  pub started-change-shown : m₁.book ≡ now.book → model_of t c.runs table applied ≡ m₁
      → Shown c (of_spoke c (started_change c.state t v c.out)) now.book
      (fitted (length c.out) (length c.reps) (start_view_change u m₁ v.0 []))
  unfolding started_change start_view_change
  started-change-shown book reads =
      let few = (sized u ok).seven in
      let m' = changing_to u m₁ v.0 in
      let t' = S.changing_to t v in
      let e : model_of t' c.runs table applied ≡ m' =
      changing-reads t c.runs table applied v (rw same few) (ap is_recovering status ∙ looks)
      ∙ λ i. changing_to (same i) (reads i) v.0 in
      let f : m'.book ≡ now.book = changing-book u m₁ v.0 ∙ book in
      spoke-shown c t' now.book m' same
      (kept-reads c table applied v few looks t' m' f e) (kept-grew c table applied v few looks t' m' f e) _ _ (calls_length t) calls-bytes (calls-long t v (ap setup_ok same ∙ ok))

-- ---- send_start_view

module _ (c : Given) (table : List ClientEntry) (applied : List Entry) (to : ℕ) (h : LogHeld c.state (length c.runs.log))
    (ok : entries_ok c.state.op.0 c.runs.log ≡ true) (bytes : Bytes c.runs.log) where
  abbrev m : State
  m = model_of c.state c.runs table applied

  abbrev s : Replica
  s = c.state

  log-long : 32 * s.op.0 ≤ length c.runs.log
  log-long = omega (arith, h.op_le, h.log-long)

  start-view-bytes : messages_out (send_start_view m to)
      ≡ encode to (StartView s.view s.op s.commit) (take (32 * s.op.0) c.runs.log)
  unfolding send_start_view start_view_of op_of model_of book_of
  start-view-bytes =
      message-log to _ (entries s.op.0 c.runs.log)
      ∙ λ i. encode to (StartView s.view (record { 0 = cells-length 32 entry_of s.op.0 c.runs.log i }) s.commit)
      (packed-log s.op.0 c.runs.log ok bytes log-long i)

  start-view-long : length (encode to (StartView s.view s.op s.commit) (take (32 * s.op.0) c.runs.log)) ≡ start_view_length s
  unfolding size_of length_of
  start-view-long =
      encode-length to (StartView s.view s.op s.commit) (take (32 * s.op.0) c.runs.log)
      (length-take-le (32 * s.op.0) c.runs.log log-long)

  pub sent-start-view-shown : Shown c (of_spoke c (sent_start_view c.state to c.runs.log c.out)) m.book
      (fitted (length c.out) (length c.reps) (done m (send_start_view m to) []))
  unfolding sent_start_view
  sent-start-view-shown =
      spoke-shown c s m.book m refl (still-reads c table applied) (no-growth m.book) _ _ (start_view_length s)
      start-view-bytes start-view-long

-- ---- on_start_view

-- what a step leaves that changes log, results, totals and acks
abbrev pub of_joined : Given → Joined → Step
of_joined c d =
    record {
      answer = d.answer;
      runs =
          record {
            log = d.runs.log;
            results = d.runs.money.results;
            totals = d.runs.money.totals;
            acks = d.acks;
            stored = c.runs.stored;
          };
      out = d.out;
      reps = c.reps;
    }

-- the same with other acks
abbrev with_acks : Given → List ℕ → Given
with_acks c acks =
    record {
      state = c.state;
      runs =
          record {
            log = c.runs.log;
            results = c.runs.results;
            totals = c.runs.totals;
            acks = acks;
            stored = c.runs.stored;
          };
      out = c.out;
      reps = c.reps;
    }

-- what is done is told without the acks that were there before
did-anyhow : (c : Given) (acks : List ℕ) (d : Step) (b : Book) (m : State) (ms : List Sent) (rs : List Reply)
    → Did (with_acks c acks) d b m ms rs → Did c d b m ms rs
did-anyhow c acks d b m ms rs h =
    record {
      code = h.code;
      setup = h.setup;
      state = h.state;
      grew = h.grew;
      messages = h.messages;
      out = h.out;
      replies = h.replies;
      reps = h.reps;
    }

all-and : (a b : Bool) → a ≡ true → (a and b) ≡ b
unfolding ◌and◌
all-and a b p = rw p

-- what refusals 1 to 5 leave, and the rules of the entries; a Recovering replica doesn't look at a StartView
pub record Announced (c : Given) (o k : Op) (part : List ℕ) : Type 0 where
  pub sound : Sound c.state (book_runs c.runs)
  pub acks-long : length c.runs.acks ≡ acks_length c.state.setup
  pub numbers : LogPassed c.state o k
  pub long : 32 * o.0 ≤ length part
  pub totals : Bytes c.runs.totals
  pub log-ok : entries_ok c.state.op.0 c.runs.log ≡ true
  pub log-bytes : Bytes c.runs.log
  pub part-ok : entries_ok o.0 part ≡ true
  pub part_bytes : Bytes part
  pub looks : is_recovering c.state.status ≡ false

module _ (c : Given) (table : List ClientEntry) (applied : List Entry) (v : View) (o k : Op) (part : List ℕ) (h : Announced c o k part) where
  abbrev was : State
  was = model_of c.state c.runs table applied

  abbrev fit : Answer → Answer
  fit a = fitted (length c.out) (length c.reps) a

  abbrev x : Memory.Runs
  x = book_runs c.runs

  -- the log that it carries
  abbrev es : List Entry
  es = entries o.0 part

  abbrev after : State
  after = joined c.state.setup was v.0 (record { commit = k.0; log = es })

  abbrev Goal : StartViewVerdict → Answer → Type 0
  Goal z a = Shown c (of_joined c (by_start_view_verdict z c.state v o k part x c.runs.acks c.out)) was.book (fit a)

  goal-ignore : Goal Ignore (ignored was)
  unfolding by_start_view_verdict
  goal-ignore = idle-shown c table applied

  goal-refuse : Goal Refuse (refused Uncommits)
  unfolding by_start_view_verdict fitted
  goal-refuse = refl

  -- ---- joined

  module _ (l : c.state.commit.0 ≤ o.0) where
    abbrev acks : List ℕ
    acks = over (replicate c.state.setup.room 0) c.runs.acks

    abbrev c₁ : Given
    c₁ = with_acks c acks

    abbrev r : Replica
    r = with_log (normal_in c.state v) o c.state.commit

    abbrev y : Memory.Runs
    y = with_log_of o part x

    abbrev new-book : Book
    new-book = install was.book es

    new-book-is : book_of c.state.setup.members o.0 c.state.commit.0 y.log y.money c.state.takings new-book.table applied ≡ new-book
    unfolding model_of
    new-book-is =
        let M = c.state.setup.members in
        let i = c.state.commit.0 in
        let fits = part-fits c.state v o k part c.runs.log c.runs.results c.runs.totals c.runs.acks c.out
        h.sound h.numbers l h.long in
        ap (λ (n : ℕ). book_of M n i y.log y.money c.state.takings new-book.table applied) (sym (zero-add o.0))
        ∙ install-lift M c.state.op.0 i c.runs.log x.money c.state.takings table applied 0 o.0 part (omega arith) fits.1.0 h.long

    new-store : store_of r c.runs.stored ≡ cleared_store c.state.setup was
    unfolding model_of store_of cleared_store no_reports is_recovering when◌then◌else◌
    new-store = rw (reports-cleared c.state.setup c.runs.stored (sized c.state.setup h.sound.sized).seven, h.looks)

    new-acks : acks ≡ no_acks c.state.setup
    unfolding no_acks
    new-acks = over-all _ c.runs.acks (length-replicate c.state.setup.room 0 ∙ sym h.acks-long)

    new-reads : model_of r (with_runs c₁.runs y) new-book.table applied
        ≡ enter_normal c.state.setup was v.0 new-book (no_acks c.state.setup)
    unfolding model_of enter_normal
    new-reads =
        λ i. record {
          place = record { status = Normal; view = v.0; last_normal = v.0; catching_up = false };
          book = new-book-is i;
          votes = record { acks = new-acks i; starts = 0; sent = false };
          store = new-store i;
          clock = r.clock;
        }

    new-grew : Grew was.book true (commit_up_to (model_of r (with_runs c₁.runs y) new-book.table applied).book k.0)
    unfolding model_of
    new-grew = anew es k.0 refl (ap (λ (q : Book). commit_up_to q k.0) new-book-is)

    abbrev next : State
    next = committed (model_of r (with_runs c₁.runs y) new-book.table applied) k.0

    next-is : next ≡ after
    unfolding committed joined enter_normal set_book
    next-is = ap (λ (m : State). set_book m (commit_up_to m.book k.0)) new-reads

    goal-join : Goal Join (done after (send_prepare_ok c.state.setup after) [])
    unfolding by_start_view_verdict joined_by
    goal-join =
        let fits = joins-sound c.state v o k part c.runs.log c.runs.results c.runs.totals c.runs.acks c.out
        h.sound h.numbers l h.long r y.log refl refl in
        let n = ok-long c₁ r y new-book.table applied k true was.book refl fits.0 h.totals fits.1 in
        let d = acked-did c₁ r y new-book.table applied k true was.book refl fits.0 h.totals fits.1 new-grew in
        subst (λ (m : State). Goal Join (done m (send_prepare_ok c.state.setup m) [])) next-is
        (subst (λ (a : Answer). Shown c (of_joined c (joined_by c.state v o k part x c.runs.acks c.out)) was.book a)
        (sym (sends-only (length c.out) (length c.reps) next (send_prepare_ok c.state.setup next)))
        (split₂ (λ (z : Joined) (a : Answer). Shown c (of_joined c z) was.book a) _ _ _ _ _ _
        (ap (λ (i : ℕ). ltb (length c.out) i) (sym n)) (λ _. refl) (λ f. did-anyhow c acks _ _ _ _ _ (d f))))

  -- ---- what it is used for

  keeps-is : agree was.book.commit es was.book.log ≡ keeps_first c.state.commit.0 c.runs.log o.0 part
  unfolding model_of book_of
  keeps-is =
      keeps-lift c.state.commit.0 c.state.op.0 o.0 c.runs.log part h.log-ok h.part-ok h.log-bytes h.part_bytes
      h.sound.commit-le (omega (arith, h.sound.op_le, h.sound.log-long, place_is c.state.op.0)) h.long

  -- the model's answer to one that is new
  abbrev taken : Answer
  taken =
      when not (agree was.book.commit es was.book.log) then refused Uncommits else
      done after (send_prepare_ok c.state.setup after) []

  goal-keep : Goal (keep_verdict c.state o part c.runs.log) taken
  unfolding keep_verdict
  goal-keep =
      subst (λ (z : StartViewVerdict). Goal z taken) (sym (by-not (keeps_first c.state.commit.0 c.runs.log o.0 part) Join Refuse))
      (split₂ Goal _ _ _ _ _ _ (ap not (sym keeps-is)) (λ _. goal-refuse)
      (λ f. goal-join (keeps-prefix c.state.commit.0 c.runs.log o.0 part (not-false _ f)).0))

  abbrev rest : StartViewVerdict
  rest = when not (is_changing c.state.status) then Ignore else keep_verdict c.state o part c.runs.log

  -- one of our view or of a later one
  goal-rest : c.state.view.0 ≤ v.0
      → Goal (when ltb c.state.view.0 v.0 then keep_verdict c.state o part c.runs.log else rest)
      (when eqb v.0 was.place.view and not (is_changing was.place.status) then ignored was else taken)
  unfolding model_of
  goal-rest g =
      split P _ _ _
      (λ t.
      let n = ltb-true c.state.view.0 v.0 t in
      subst (Goal (keep_verdict c.state o part c.runs.log))
      (sym (if-false _ _ _ (none-and _ _ (ne_eqb v.0 c.state.view.0 (λ e. omega (arith, n, e))))))
      goal-keep)
      (λ f.
      let n = ltb-false c.state.view.0 v.0 f in
      let e : v.0 ≡ c.state.view.0 = omega (arith, g, n) in
      split₂ Goal _ _ _ _ _ _ (sym (all-and _ (not (is_changing c.state.status)) (eq-eqb v.0 c.state.view.0 e)))
      (λ _. goal-ignore) (λ _. goal-keep))
    where
      P : StartViewVerdict → Type 0
      P z = Goal z (when eqb v.0 c.state.view.0 and not (is_changing c.state.status) then ignored was else taken)

  pub start-view-shown : Shown c (of_joined c (start_view_step c.state v o k part x c.runs.acks c.out)) was.book
      (fit (on_start_view c.state.setup was v.0 (record { commit = k.0; log = entries o.0 part })))
  unfolding start_view_step start_view_verdict on_start_view model_of
  start-view-shown = split₂ Goal _ _ _ _ _ _ refl (λ _. goal-ignore) (λ f. goal-rest (ltb-false _ _ f))
