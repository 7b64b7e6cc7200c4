-- The steps that several handlers share, lifted to the model.
--     quiet-shown       nothing is sent
--     spoke-shown       messages go out if they fit
--     ask-shown         send_get_state
--     ignore-shown, hear-shown    a message that is ignored, or only heard
--     accept-shown      accept_from_primary, with what is done where the message is taken
--     ack-shown         commit_up_to, and then send_prepare_ok
-- Assumes nothing.
use Prim.Native.Nat.{ℕ, zero, suc, ◌≤◌, ◌<◌}
use native.Mathlib.Nat.{zero-sub}
use native.Mathlib.Omega.{arith}
use mathlib.Core.Path.{◌≡◌, refl, sym, ap, ◌∙◌, subst}
use mathlib.Core.Bool.{Bool, true, false, not, false≢true}
use mathlib.Core.List.{List, [], ◌∷◌, append-nil}
use mathlib.Core.Option.{Option, none}
use lib.Dec.{ltb}
use lib.ListN.{length, take, replicate}
use borrow.Author.Tests.{le-ltb, ne_eqb, eq-eqb, ltb-true, ltb-false, not-true}
use Rattle.numbers.specs.Words.{when◌then◌else◌, ◌and◌}
use Rattle.numbers.specs.Numbers.{over}
use Rattle.numbers.specs.Cells.{packed}
use Rattle.numbers.proofs.WordLaws.{if-true, if-false, split, split₂, and_both, and-false, and-true}
use Rattle.numbers.proofs.RunLaws.{over-nil}
use Rattle.numbers.specs.declared.Op.{Op}
use Rattle.entries.specs.declared.Entry.{Entry}
use Rattle.numbers.specs.declared.View.{View}
use Rattle.config.specs.Setup.{primary_of}
use Rattle.frames.specs.declared.Message.{Message}
use Rattle.frames.specs.declared.Message.TheVariants.{GetState}
use Rattle.writers.specs.Writers.{encode, size_of, length_of}
use Rattle.writers.proofs.WriterLaws.{encode-length}
use Rattle.config.specs.declared.Setup.{Setup}
use Rattle.state.specs.State as S
use Rattle.state.specs.Statuses as Statuses
use Rattle.state.specs.State.{catching_up_in}
use Rattle.state.specs.Statuses.{is_recovering, no_report}
use Rattle.state.specs.declared.Report.{Report}
use Rattle.state.specs.Answers.{refusal, completed, quiet}
use Rattle.state.specs.declared.Replica.{Replica}
use Rattle.book.specs.Memory as Memory
use Rattle.steps.specs.Steps.{Spoke, Left, spoke, accept_changing, accept_of, is_take, asked_for_state, deferred, alone}
use Rattle.book.specs.Memory.{runs}
use Rattle.steps.proofs.StepLaws.{older, newer, changing, absent, leading, follows}
use Rattle.steps.specs.declared.Accept.{Accept}
use Rattle.steps.specs.declared.Accept.TheVariants.{Ignore, Hear, Join, Rejoin, Take}
use Rattle.model.specs.State.{view_of, ClientEntry, Book, State, Sent, Answer, ignored, set_clock}
use Rattle.model.specs.State.Answer.{refused, done}
use Rattle.model.specs.Sending.{sent_bytes, messages_out, replies_out, send, primary, is_primary, to_primary, send_get_state}
use Rattle.model.specs.Book.{append_all, commit_all, due_entries, commit_up_to}
use Rattle.model.specs.Normal.{heard_from_primary, accept_from_primary}
use Rattle.model.specs.ViewChange.{no_reports, cleared_votes, cleared_store, catching_up_with, catch_up_with_view}
use Rattle.layout.specs.Layout.{LentRuns, report_at, response_at, placed, store_of, book_of, model_of}
use Rattle.model.specs.Steps.{fitted}
use Rattle.layout.specs.Shown.{Given, Step, Grew, Did, Shown}
use Rattle.layout.specs.Shown.Grew.{more}
use Rattle.layout.proofs.RowLift.{none-and}
use Rattle.frames.specs.declared.Refusal.TheVariants.{NoRoomForMessages, NoRoomForReplies}

-- what a step that only sends leaves
abbrev pub of_spoke : Given → Spoke → Step
of_spoke c d = record { answer = d.answer; runs = c.runs; out = d.out; reps = c.reps }

-- no reply
replies_out-nil : replies_out [] ≡ []
unfolding replies_out packed
replies_out-nil = refl

module _ (c : Given) (t : Replica) (b : Book) (m' : State) (same : t.setup ≡ c.state.setup)
    (reads : model_of t c.runs m'.book.table m'.book.applied ≡ m') (grew : Grew b false m'.book) where
  did : (ms : List Sent) (w : List ℕ) (k : ℕ) → messages_out ms ≡ w → length w ≡ k
      → Did c (of_spoke c (spoke (completed t k 0 false) (over w c.out))) b m' ms []
  unfolding replies_out packed
  did ms w k p q =
      record {
        code = refl;
        setup = same;
        state = reads;
        grew = grew;
        messages = sym (ap length p ∙ q);
        out = ap (λ (x : List ℕ). over x c.out) (sym p);
        replies = refl;
        reps = over-nil c.reps;
      }

  -- the model's answer without replies, where its messages fit
  fits : (ms : List Sent) → (P : Answer → Type 0) → P (done m' ms []) → P (when ltb (length c.reps) (length (replies_out [])) then refused NoRoomForReplies else done m' ms [])
  unfolding replies_out packed
  fits ms P h = rw (if-false _ (refused NoRoomForReplies) (done m' ms []) (le-ltb (length c.reps) 0 (omega arith))) h

  -- messages of k bytes go out, or refusal 9
  pub spoke-shown : (ms : List Sent) (w : List ℕ) (k : ℕ) → messages_out ms ≡ w → length w ≡ k
      → Shown c
      (of_spoke c (when ltb (length c.out) k then spoke (refusal NoRoomForMessages c.state) c.out else spoke (completed t k 0 false) (over w c.out)))
      b
      (fitted (length c.out) (length c.reps) (done m' ms []))
  unfolding fitted
  spoke-shown ms w k p q =
      split₂ (λ (d : Spoke) (a : Answer). Shown c (of_spoke c d) b a) _ _ _ _ _ _ (rw (p, q)) (λ _. refl)
      (λ _. fits ms (Shown c (of_spoke c (spoke (completed t k 0 false) (over w c.out))) b) (did ms w k p q))

  -- nothing goes out
  pub quiet-shown : Shown c (of_spoke c (spoke (quiet t) c.out)) b (fitted (length c.out) (length c.reps) (done m' [] []))
  unfolding fitted messages_out packed over
  quiet-shown =
      rw (if-false _ (refused NoRoomForMessages) _ (le-ltb (length c.out) 0 (omega arith)))
      (fits [] (Shown c (of_spoke c (spoke (quiet t) c.out)) b) (did [] [] 0 refl refl))

-- one message, without a log
pub one-message : (to : ℕ) (x : Message) → messages_out (send to x []) ≡ encode to x []
unfolding messages_out send sent_bytes packed
one-message to x = append-nil (encode to x [])

-- ---- send_get_state

module _ (c : Given) (t : Replica) (b : Book) (at : Op) (m' : State) (same : t.setup ≡ c.state.setup)
    (reads : model_of t c.runs m'.book.table m'.book.applied ≡ m') (grew : Grew b false m'.book) where
  pub get-state-bytes : messages_out (send_get_state c.state.setup m' at.0) ≡ encode (primary_of t.setup.n t.view) (GetState t.setup.id t.view at) []
  unfolding send_get_state to_primary primary model_of
  get-state-bytes = one-message (primary_of c.state.setup.n (view_of m'.place.view)) (GetState c.state.setup.id (view_of m'.place.view) at)
      ∙ rw (← same, ← reads)

  pub get-state-long : length (encode (primary_of t.setup.n t.view) (GetState t.setup.id t.view at) []) ≡ 16
  unfolding size_of length_of
  get-state-long = encode-length _ (GetState t.setup.id t.view at) [] refl

  pub ask-shown : Shown c (of_spoke c (asked_for_state c.state t at c.out)) b
      (fitted (length c.out) (length c.reps) (done m' (send_get_state c.state.setup m' at.0) []))
  unfolding asked_for_state
  ask-shown = spoke-shown c t b m' same reads grew _ _ 16 get-state-bytes get-state-long

-- ---- accept_from_primary

-- whoever isn't a backup in Normal isn't in Normal, or leads
neither : {X : Type 0} (normal primary : Bool) → (normal and not primary) ≡ false → (not normal ≡ true → X)
    → (not normal ≡ false → primary ≡ true → X) → X
unfolding ◌and◌
neither false p e f g = f refl
neither true true e f g = g refl refl
neither true false e f g = absurd (false≢true (sym e))

-- what a step that changes log, results and totals leaves
abbrev pub of_left : Given → Left → Step
of_left c d =
    record {
      answer = d.answer;
      runs =
          record {
            log = d.runs.log;
            results = d.runs.money.results;
            totals = d.runs.money.totals;
            acks = c.runs.acks;
            stored = c.runs.stored;
          };
      out = d.out;
      reps = c.reps;
    }

-- log, results and totals among the lent runs
abbrev pub book_runs : LentRuns → Memory.Runs
book_runs x = runs x.log x.results x.totals

-- a book that a call leaves alone
pub no-growth : (b : Book) → Grew b false b
unfolding commit_up_to due_entries commit_all append_all
no-growth b = more [] 0 refl (rw (zero-sub b.commit))

transport-grew : {b q q' : Book} → q ≡ q' → Grew b false q → Grew b false q'
transport-grew {b} e g = subst (λ (q : Book). Grew b false q) e g

take_same : {A : Type 0} (n k : ℕ) (x : A) → n ≤ k → take n (replicate k x) ≡ replicate n x
take_same zero k x h = refl
take_same (suc n) zero x h = absurd (omega arith)
take_same (suc n) (suc k) x h = ap (λ (xs : List _). x ∷ xs) (take_same n k x (omega arith))

-- no place of a cleared row is filled
none-placed : {A : Type 0} (f : ℕ → Report → Option A) → ((i : ℕ) → f i no_report ≡ none) → (i k : ℕ) → placed f i (replicate k no_report) ≡ replicate k none
unfolding placed
none-placed f h i zero = refl
none-placed f h i (suc k) = rw (h i, none-placed f h (suc i) k)

pub reports-cleared : (u : Setup) (stored : List ℕ) → u.n ≤ 7 → placed (report_at u stored) 0 (take u.n (Statuses.no_reports).rows) ≡ replicate u.n none
unfolding report_at when◌then◌else◌
reports-cleared u stored h = rw (take_same u.n 7 no_report h) (none-placed (report_at u stored) (λ i. refl) 0 u.n)

pub responses-cleared : (u : Setup) (stored : List ℕ) → u.n ≤ 7
    → placed (response_at u stored) 0 (take u.n (Statuses.no_reports).rows) ≡ replicate u.n none
unfolding response_at when◌then◌else◌
responses-cleared u stored h = rw (take_same u.n 7 no_report h) (none-placed (response_at u stored) (λ i. refl) 0 u.n)

module _ (s : Replica) (x : LentRuns) (table : List ClientEntry) (applied : List Entry) where
  abbrev m : State
  m = model_of s x table applied

  pub heard-reads : model_of (S.heard_by s) x table applied ≡ heard_from_primary (model_of s x table applied)
  unfolding model_of store_of heard_from_primary set_clock
  heard-reads = refl

  -- catch_up_with_view; whoever looks at a primary's message isn't Recovering
  pub catching-reads : (v : View) → s.setup.n ≤ 7 → is_recovering s.status ≡ false
      → model_of (catching_up_in s v) x table applied ≡ catching_up_with s.setup (model_of s x table applied) v.0
  unfolding model_of store_of catching_up_with cleared_votes cleared_store no_reports is_recovering when◌then◌else◌
  catching-reads v h r = rw (reports-cleared s.setup x.stored h, r)

module _ (c : Given) (table : List ClientEntry) (applied : List Entry) (v : View) (few : c.state.setup.n ≤ 7)
    (looks : is_recovering c.state.status ≡ false) where
  abbrev now : State
  now = model_of c.state c.runs table applied

  abbrev fit : Answer → Answer
  fit a = fitted (length c.out) (length c.reps) a

  -- a state with the book as it was
  module _ (t : Replica) (m' : State) (same : m'.book ≡ now.book) (reads : model_of t c.runs table applied ≡ m') where
    pub kept-reads : model_of t c.runs m'.book.table m'.book.applied ≡ m'
    unfolding model_of book_of
    kept-reads = ap (λ (q : Book). model_of t c.runs q.table q.applied) same ∙ reads

    pub kept-grew : Grew now.book false m'.book
    kept-grew = transport-grew (sym same) (no-growth now.book)

  -- what is done with a message that isn't taken
  abbrev late : Accept → Step
  late z = of_spoke c (deferred z c.state v c.out)

  pub ignore-shown : Shown c (late Ignore) now.book (fit (ignored now))
  unfolding deferred ignored
  ignore-shown = quiet-shown c c.state now.book now refl (kept-reads c.state now refl refl) (no-growth now.book)

  abbrev heard : State
  heard = heard_from_primary now

  heard-book : (heard_from_primary now).book ≡ now.book
  unfolding heard_from_primary set_clock
  heard-book = refl

  pub hear-shown : Shown c (late Hear) now.book (fit (ignored (heard_from_primary now)))
  unfolding deferred ignored
  hear-shown =
      let r = heard-reads c.state c.runs table applied in
      let t = S.heard_by c.state in
      quiet-shown c t now.book heard refl (kept-reads t heard heard-book r) (kept-grew t heard heard-book r)

  -- catch_up_with_view from a state t, read as m₁, that differs in its clock at most
  caught-book : (u : Setup) (m₁ : State) (w : ℕ) → (catching_up_with u m₁ w).book ≡ m₁.book
  unfolding catching_up_with
  caught-book u m₁ w = refl

  now-commit : now.book.commit ≡ c.state.commit.0
  unfolding model_of book_of
  now-commit = refl

  ask-catching : (t : Replica) (m₁ : State) → t.setup ≡ c.state.setup → is_recovering t.status ≡ false
      → m₁.book ≡ now.book → model_of t c.runs table applied ≡ m₁
      → Shown c (of_spoke c (asked_for_state c.state (catching_up_in t v) c.state.commit c.out)) now.book
      (fit (done (catching_up_with c.state.setup m₁ v.0) (send_get_state c.state.setup (catching_up_with c.state.setup m₁ v.0) m₁.book.commit) []))
  ask-catching t m₁ same status book reads =
      let m' = catching_up_with c.state.setup m₁ v.0 in
      let t' = catching_up_in t v in
      let e : model_of t' c.runs table applied ≡ m' =
      catching-reads t c.runs table applied v (rw same few) status ∙ λ i. catching_up_with (same i) (reads i) v.0 in
      let k : m₁.book.commit ≡ c.state.commit.0 = ap (λ (q : Book). q.commit) book ∙ now-commit in
      let f : m'.book ≡ now.book = caught-book c.state.setup m₁ v.0 ∙ book in
      subst
      (λ (o : ℕ). Shown c (of_spoke c (asked_for_state c.state t' c.state.commit c.out)) now.book (fit (done m' (send_get_state c.state.setup m' o) [])))
      (sym k)
      (ask-shown c t' now.book c.state.commit m' same (kept-reads t' m' f e) (kept-grew t' m' f e))

  join-shown : c.state.view.0 < v.0 → Shown c (late Join) now.book (fit (catch_up_with_view c.state.setup now v.0))
  unfolding deferred catch_up_with_view model_of
  join-shown h =
      subst (λ (a : Answer). Shown c (late Join) now.book (fit a))
      (sym (if-false _ _ _ (none-and _ _ (ne_eqb c.state.view.0 v.0 (λ e. omega (arith, e, h))))))
      (ask-catching c.state now refl looks refl refl)

  rejoin-shown : c.state.view.0 ≡ v.0 → c.state.catching ≡ false
      → Shown c (late Rejoin) now.book (fit (catch_up_with_view c.state.setup (heard_from_primary now) v.0))
  unfolding deferred catch_up_with_view heard_from_primary set_clock model_of
  rejoin-shown e n =
      subst (λ (a : Answer). Shown c (late Rejoin) now.book (fit a)) (sym (if-false _ _ _ (and-false _ _ n)))
      (ask-catching (S.heard_by c.state) (heard_from_primary now) refl looks heard-book (heard-reads c.state c.runs table applied))

  rehear-shown : c.state.view.0 ≡ v.0 → c.state.catching ≡ true
      → Shown c (late Hear) now.book (fit (catch_up_with_view c.state.setup (heard_from_primary now) v.0))
  unfolding catch_up_with_view heard_from_primary set_clock model_of
  rehear-shown e n =
      subst (λ (a : Answer). Shown c (late Hear) now.book (fit a))
      (sym (if-true _ _ _ (and-true _ _ (eq-eqb c.state.view.0 v.0 e) n))) hear-shown

  pub primary-is : is_primary c.state.setup now ≡ S.leads c.state
  unfolding is_primary primary S.leads model_of
  primary-is = refl

  module _ (T : Left) (rest : Answer) (taken : accept_of c.state v ≡ Take → Shown c (of_left c T) now.book (fit rest)) where
    abbrev whole : Accept → Step
    whole z = of_left c (when is_take z then T else alone (book_runs c.runs) (deferred z c.state v c.out))

    abbrev Goal : Accept → Answer → Type 0
    Goal z a = Shown c (whole z) now.book (fit a)

    goal-ignore : (a : Answer) → Shown c (late Ignore) now.book (fit a) → Goal Ignore a
    unfolding is_take when◌then◌else◌
    goal-ignore a h = h

    goal-hear : (a : Answer) → Shown c (late Hear) now.book (fit a) → Goal Hear a
    unfolding is_take when◌then◌else◌
    goal-hear a h = h

    goal-join : (a : Answer) → Shown c (late Join) now.book (fit a) → Goal Join a
    unfolding is_take when◌then◌else◌
    goal-join a h = h

    goal-rejoin : (a : Answer) → Shown c (late Rejoin) now.book (fit a) → Goal Rejoin a
    unfolding is_take when◌then◌else◌
    goal-rejoin a h = h

    goal-take : (a : Answer) → Shown c (of_left c T) now.book (fit a) → Goal Take a
    unfolding is_take when◌then◌else◌
    goal-take a h = h

    -- a message of our view, while we change to it
    changing-goal : c.state.view.0 ≡ v.0 → (z : Accept) → z ≡ accept_changing c.state
        → Goal z (catch_up_with_view c.state.setup (heard_from_primary now) v.0)
    unfolding accept_changing
    changing-goal e z p =
        subst (λ (y : Accept). Goal y (catch_up_with_view c.state.setup (heard_from_primary now) v.0)) (sym p)
        (split (λ (y : Accept). Goal y (catch_up_with_view c.state.setup (heard_from_primary now) v.0)) c.state.catching Hear Rejoin
        (λ t. goal-hear _ (rehear-shown e t)) (λ f. goal-rejoin _ (rejoin-shown e f)))

    pub accept-shown : Goal (accept_of c.state v) (accept_from_primary c.state.setup now v.0 rest)
    unfolding accept_from_primary model_of is_primary primary S.leads
    accept-shown =
        split P _ _ _ (λ t. subst (λ (z : Accept). Goal z (ignored now)) (older s v (ltb-true _ _ t)) (goal-ignore _ ignore-shown)) λ f.
        let g = ltb-false _ _ f in
        split P _ _ _ (λ t. subst (λ (z : Accept). Goal z (catch_up_with_view c.state.setup now v.0)) (newer s v g (ltb-true _ _ t)) (goal-join _ (join-shown (ltb-true _ _ t)))) λ k.
        let l = ltb-false _ _ k in
        let e : s.view.0 ≡ v.0 = omega (arith, g, l) in
        split P _ _ _ (λ t. changing-goal e _ (sym (changing s v g l _ t refl))) λ n.
        split P _ _ _
        (λ t.
        let q = and_both _ _ t in
        let a : Take ≡ accept_of s v = follows s v g l n (ap not q.0) (not-true _ q.1) in
        subst (λ (z : Accept). Goal z rest) a (goal-take _ (taken (sym a))))
        (λ t. subst (λ (z : Accept). Goal z (ignored (heard_from_primary now))) (neither _ _ t (absent s v g l n) (leading s v g l n)) (goal-hear _ hear-shown))
      where
        s : Replica
        s = c.state

        P : Answer → Type 0
        P a = Goal (accept_of c.state v) a
