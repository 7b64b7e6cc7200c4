-- on_commit and on_prepare, lifted to the model.
--     silent-shown                nothing is sent, whatever runs were changed
--     transfer-shown              state_transfer, by one who has heard
--     commit-shown                on_commit
--     prepared-shown              on_prepare's last part: commit, then PrepareOk
--     Met, prepare-shown          on_prepare: refusal 6 by the client's row is the model's by the whole log
-- Assumes nothing.
use Prim.Native.Nat.{ℕ, ◌+◌, min, ◌≤◌, ◌<◌}
use native.Mathlib.Omega.{arith}
use mathlib.Core.Path.{◌≡◌, refl, sym, ap, ◌∙◌, subst}
use mathlib.Core.Bool.{Bool, true, false, not}
use mathlib.Core.List.{List, [], ◌∷◌, ◌++◌}
use mathlib.Core.Option.{Option, none, some}
use lib.Dec.{ltb, leb, eqb}
use lib.ListN.{length}
use borrow.Author.Tests.{le-ltb, le-leb, lt-leb, ltb-true, ltb-false, leb-false, eq-eqb, ne_eqb}
use Rattle.numbers.specs.Words.{when◌then◌else◌, ◌and◌}
use Rattle.numbers.specs.Numbers.{Bytes}
use Rattle.numbers.specs.Cells.{packed}
use Rattle.numbers.specs.declared.Op.{Op}
use Rattle.numbers.specs.declared.View.{View}
use Rattle.numbers.proofs.WordLaws.{if-false, split₂}
use Rattle.numbers.proofs.RunLaws.{over-nil}
use Rattle.numbers.proofs.CellLaws.{cells-length}
use Rattle.entries.specs.Entries.{entry_of, entries, EntryFits}
use Rattle.entries.specs.Rising.{rising}
use Rattle.entries.specs.declared.Entry.{Entry}
use Rattle.config.proofs.SetupLaws.{sized}
use Rattle.client_table.specs.Latest.{latest_by, is_new}
use Rattle.client_table.specs.declared.Latest as Rows
use Rattle.fees.specs.declared.Outcome.{Outcome}
use Rattle.frames.specs.declared.Status.TheVariants.{StateTransfer}
use Rattle.state.specs.State as S
use Rattle.state.specs.Statuses.{is_recovering}
use Rattle.state.specs.Answers.{refusal, quiet}
use Rattle.state.specs.declared.Replica.{Replica}
use Rattle.book.specs.Memory as Memory
use Rattle.steps.specs.Steps.{Sound, Left, left, committed_to, settled, asked_for_state, transferred, committed_and_acked}
use Rattle.normal.specs.Commit.{taken_commit, commit_step}
use Rattle.normal.specs.Prepare.{lower_of, append_verdict, prepare_verdict, with_entry, appended_by, by_prepare_verdict, taken_prepare, prepare_step}
use Rattle.normal.specs.Request.{next_op}
use Rattle.normal.specs.declared.prepare.PrepareVerdict.{PrepareVerdict}
use Rattle.normal.specs.declared.prepare.PrepareVerdict.TheVariants.{Again, Refuse, Append}
use Rattle.normal.specs.declared.prepare.Prepared.{Prepared}
use Rattle.normal.proofs.CommitLaws.{sound-heard}
use Rattle.normal.proofs.PrepareLaws.{append-fits, sound-next}
use Rattle.model.specs.State.{ClientEntry, Book, State, Sent, Answer, set_book, set_clock, set_place, set_status, op_of}
use Rattle.model.specs.State.Answer.{refused, done}
use Rattle.model.specs.Book.{find, append, append_all, commit_up_to}
use Rattle.model.specs.Sending.{messages_out, replies_out, to_primary, send_prepare_ok, send_get_state}
use Rattle.model.specs.Normal.{heard_from_primary, committed, state_transfer, prepared, take_prepare, on_prepare, take_commit, on_commit}
use Rattle.layout.specs.Layout.{store_of, book_of, model_of}
use Rattle.model.specs.Steps.{fitted}
use Rattle.layout.specs.Shown.{Given, Step, Grew, Did, Shown, Tells}
use Rattle.layout.specs.Shown.Grew.{more}
use Rattle.steps.proofs.AckLift.{with_runs, committed-reads, ack-shown}
use Rattle.layout.proofs.BookLift.{append-lift}
use Rattle.model.proofs.LatestLaws.{Latest, latest-lift}
use Rattle.steps.proofs.StepLift.{of_spoke, of_left, book_runs, heard-reads, kept-reads, kept-grew, ask-shown, accept-shown}
use Rattle.frames.specs.declared.Refusal.TheVariants.{PastRoom, NotRising, NoRoomForMessages, NoRoomForReplies}
use Rattle.frames.specs.declared.Refusal.{Refusal}

-- nothing goes out
pub silent-shown : (c : Given) (d : Step) (b : Book) (m' : State) → Did c d b m' [] []
    → Shown c d b (fitted (length c.out) (length c.reps) (done m' [] []))
unfolding fitted messages_out replies_out packed
silent-shown c d b m' h =
    subst (λ (a : Answer). Shown c d b a)
    (sym
    (if-false _ (refused NoRoomForMessages) _ (le-ltb (length c.out) 0 (omega arith))
    ∙ if-false _ (refused NoRoomForReplies) (done m' [] []) (le-ltb (length c.reps) 0 (omega arith))))
    h

-- what refusal 1 leaves of the number of replicas
few : (s : Replica) (x : Memory.Runs) → Sound s x → s.setup.n ≤ 7
few s x h = (sized s.setup h.sized).seven

module _ (c : Given) (table : List ClientEntry) (applied : List Entry) where
  abbrev now : State
  now = model_of c.state c.runs table applied

  abbrev fit : Answer → Answer
  fit a = fitted (length c.out) (length c.reps) a

  now-op : op_of (model_of c.state c.runs table applied) ≡ c.state.op.0
  unfolding op_of model_of book_of
  now-op = cells-length 32 entry_of c.state.op.0 c.runs.log

  heard-op : op_of (heard_from_primary now) ≡ c.state.op.0
  unfolding op_of heard_from_primary set_clock
  heard-op = now-op

  -- ---- state_transfer

  module _ (n : c.state.setup.n ≤ 7) (looks : is_recovering c.state.status ≡ false) where
    abbrev asking : Replica
    asking = S.with_status (S.heard_by c.state) StateTransfer

    abbrev waits : State
    waits = set_status (heard_from_primary now) StateTransfer

    waits-reads : model_of asking c.runs table applied ≡ waits
    unfolding model_of store_of heard_from_primary set_status set_place set_clock is_recovering when◌then◌else◌
    waits-reads = rw looks

    waits-book : waits.book ≡ now.book
    unfolding heard_from_primary set_status set_place set_clock
    waits-book = refl

    -- the GetState goes by the view, which stays
    same-message : (o : ℕ) → send_get_state c.state.setup (heard_from_primary now) o ≡ send_get_state c.state.setup waits o
    unfolding send_get_state to_primary heard_from_primary set_status set_place set_clock
    same-message o = refl

    pub transfer-shown : Shown c (of_spoke c (transferred c.state c.out)) now.book (fit (state_transfer c.state.setup (heard_from_primary now)))
    unfolding transferred state_transfer
    transfer-shown =
        subst
        (λ (ms : List Sent). Shown c (of_spoke c (asked_for_state c.state asking c.state.op c.out)) now.book (fit (done waits ms [])))
        (sym (ap (send_get_state c.state.setup (heard_from_primary now)) heard-op ∙ same-message c.state.op.0))
        (ask-shown c asking now.book c.state.op waits refl
        (kept-reads c table applied c.state.view n looks asking waits waits-book waits-reads)
        (kept-grew c table applied c.state.view n looks asking waits waits-book waits-reads))

-- ---- on_commit

module _ (c : Given) (table : List ClientEntry) (applied : List Entry) (sound : Sound c.state (book_runs c.runs)) (bytes : Bytes c.runs.totals)
    (looks : is_recovering c.state.status ≡ false) (k : Op) where
  -- what a commit leaves
  abbrev settles : Left
  settles = left (quiet (committed_to (S.heard_by c.state) k (book_runs c.runs))) (settled (S.heard_by c.state) k (book_runs c.runs)) c.out

  settles-did : k.0 ≤ c.state.op.0
      → Did c (of_left c settles) (now c table applied).book (committed (heard_from_primary (now c table applied)) k.0) [] []
  unfolding model_of store_of heard_from_primary set_clock set_book committed messages_out replies_out packed append_all settled
  settles-did h =
      record {
        code = refl;
        setup = refl;
        state =
            committed-reads c (S.heard_by c.state) (book_runs c.runs) table applied k false (now c table applied).book refl
            (sound-heard c.state (S.heard_by c.state) (book_runs c.runs) refl sound) bytes h;
        grew = more [] k.0 refl refl;
        messages = refl;
        out = over-nil c.out;
        replies = refl;
        reps = over-nil c.reps;
      }

  taken-shown : Shown c (of_left c (taken_commit c.state k (book_runs c.runs) c.out)) (now c table applied).book
      (fit c table applied (take_commit c.state.setup (now c table applied) k.0))
  unfolding taken_commit take_commit
  taken-shown =
      split₂ (λ (d : Left) (a : Answer). Shown c (of_left c d) (now c table applied).book (fit c table applied a)) _ _ _ _ _ _
      (ap (λ (o : ℕ). ltb o k.0) (sym (now-op c table applied)))
      (λ _. transfer-shown c table applied (few c.state (book_runs c.runs) sound) looks)
      (λ f. silent-shown c (of_left c settles) (now c table applied).book _ (settles-did (ltb-false _ _ f)))

  pub commit-shown : (v : View)
      → Shown c (of_left c (commit_step c.state v k (book_runs c.runs) c.out)) (model_of c.state c.runs table applied).book
      (fitted (length c.out) (length c.reps) (on_commit c.state.setup (model_of c.state c.runs table applied) v.0 k.0))
  unfolding commit_step on_commit
  commit-shown v =
      accept-shown c table applied v (few c.state (book_runs c.runs) sound) looks (taken_commit c.state k (book_runs c.runs) c.out)
      (take_commit c.state.setup (now c table applied) k.0) (λ _. taken-shown)

-- ---- on_prepare

-- What on_prepare is given: what refusal 1 leaves, runs of bytes, a status that looks at a Prepare, an entry that fits its bytes; and, of the log
-- and the table that calls leave, that the log rises, that the table has its latest requests, and that the row is the table's.
pub record Met (c : Given) (p : Prepared) (table : List ClientEntry) : Type 0 where
  pub sound : Sound c.state (book_runs c.runs)
  pub bytes : Bytes c.runs.totals
  pub looks : is_recovering c.state.status ≡ false
  pub fits : EntryFits p.entry
  pub rises : rising (entries c.state.op.0 c.runs.log) ≡ true
  pub latest : Latest table (entries c.state.op.0 c.runs.log)
  pub row : Tells table p.entry.client p.latest

-- refusal 9 by the same test once more
twice : {A : Type 0} (b : Bool) (x y : A) → (when b then x else when b then x else y) ≡ (when b then x else y)
unfolding when◌then◌else◌
twice true x y = refl
twice false x y = refl

-- an op not past the next: earlier than it, and not it
earlier : (o n : ℕ) → ltb n o ≡ false → ltb o n ≡ not (eqb o n)
earlier o n h = go (ltb o n) refl
  where
    go : (b : Bool) → ltb o n ≡ b → b ≡ not (eqb o n)
    go true e = ap not (sym (ne_eqb o n (λ q. omega (arith, ltb-true o n e, q))))
    go false e = ap not (sym (eq-eqb o n (omega (arith, ltb-false o n e, ltb-false n o h))))

-- not above is at most
turned : (x y : ℕ) → not (ltb x y) ≡ leb y x
turned x y = go (ltb x y) refl
  where
    go : (b : Bool) → ltb x y ≡ b → not b ≡ leb y x
    go true e = sym (lt-leb y x (ltb-true x y e))
    go false e = sym (le-leb y x (ltb-false x y e))

-- the row's test is the table's
row-test : (there : Bool) (request : ℕ) (kept : Option Outcome) (r : ℕ) → not (is_new (latest_by there request kept) r) ≡ (there and leb r request)
unfolding is_new ◌and◌
row-test false request kept r = refl
row-test true request none r = turned request r
row-test true request (some o) r = turned request r

twice-not : (b : Bool) → not (not b) ≡ b
twice-not true = refl
twice-not false = refl

-- on_prepare, its last part, by a state t with runs y that are read as m₁
module _ (c : Given) (k : Op) (t : Replica) (y : Memory.Runs) (table : List ClientEntry) (applied : List Entry) (b : Book)
    (same : t.setup ≡ c.state.setup) (sound : Sound t y) (bytes : Bytes y.money.totals) where
  abbrev ends : Left
  ends =
      when ltb (length c.out) 16 then left (refusal NoRoomForMessages c.state) (book_runs c.runs) c.out else
      committed_and_acked c.state t (lower_of k t.op) false y c.out

  abbrev read : State
  read = model_of t (with_runs c.runs y) table applied

  read-op : op_of (model_of t (with_runs c.runs y) table applied) ≡ t.op.0
  unfolding op_of model_of book_of
  read-op = cells-length 32 entry_of t.op.0 y.log

  ends-shown : Grew b false (commit_up_to read.book (min k.0 t.op.0))
      → Shown c (of_left c ends) b (fitted (length c.out) (length c.reps) (prepared c.state.setup read k.0))
  unfolding prepared
  ends-shown grew =
      subst
      (λ (o : ℕ). Shown c (of_left c ends) b (fitted (length c.out) (length c.reps)
      (done (committed read (min k.0 o)) (send_prepare_ok c.state.setup (committed read (min k.0 o))) [])))
      (sym read-op)
      (ack-shown c t y table applied (lower_of k t.op) false b same sound bytes (omega arith) grew)

  pub prepared-shown : (m₁ : State) → model_of t (with_runs c.runs y) table applied ≡ m₁
      → Grew b false (commit_up_to m₁.book (min k.0 t.op.0))
      → Shown c (of_left c ends) b (fitted (length c.out) (length c.reps) (prepared c.state.setup m₁ k.0))
  prepared-shown m₁ reads =
      subst
      (λ (n : State). Grew b false (commit_up_to n.book (min k.0 t.op.0))
      → Shown c (of_left c ends) b (fitted (length c.out) (length c.reps) (prepared c.state.setup n k.0)))
      reads
      ends-shown

module _ (c : Given) (p : Prepared) (table : List ClientEntry) (applied : List Entry) (met : Met c p table) where
  abbrev s : Replica
  s = c.state

  abbrev x : Memory.Runs
  x = book_runs c.runs

  abbrev m : State
  m = model_of c.state c.runs table applied

  abbrev Goal : Left → Answer → Type 0
  Goal d a = Shown c (of_left c d) m.book (fitted (length c.out) (length c.reps) a)

  -- a re-sent one
  again-shown : Goal (by_prepare_verdict Again s p x c.out) (prepared s.setup (heard_from_primary m) p.commit.0)
  unfolding by_prepare_verdict committed_and_acked model_of heard_from_primary set_clock append_all
  again-shown =
      subst (λ (d : Left). Goal d (prepared s.setup (heard_from_primary m) p.commit.0)) (twice (ltb (length c.out) 16) _ _)
      (prepared-shown c p.commit (S.heard_by s) x table applied m.book refl (sound-heard s (S.heard_by s) x refl met.sound) met.bytes
      (heard_from_primary m) (heard-reads s c.runs table applied) (more [] (min p.commit.0 s.op.0) refl refl))

  -- the next op
  abbrev e : Entry
  e = p.entry

  abbrev t : Replica
  t = S.with_log (S.heard_by c.state) (next_op c.state) c.state.commit

  append-reads : s.op.0 < s.setup.room
      → model_of t (with_runs c.runs (with_entry s p x)) (append m.book e).table applied ≡ set_book (heard_from_primary m) (append m.book e)
  unfolding model_of store_of heard_from_primary set_clock set_book
  append-reads l =
      ap (set_book (heard_from_primary m))
      (append-lift s.setup.members s.op.0 s.commit.0 c.runs.log x.money s.takings table applied e met.fits
      (append-fits s e c.runs.log c.runs.results c.runs.totals met.sound l).1)

  append-shown : s.op.0 < s.setup.room
      → Goal (by_prepare_verdict Append s p x c.out) (prepared s.setup (set_book (heard_from_primary m) (append m.book e)) p.commit.0)
  unfolding by_prepare_verdict appended_by set_book append_all
  append-shown l =
      prepared-shown c p.commit t (with_entry s p x) (append m.book e).table applied m.book refl
      (sound-next s e c.runs.log c.runs.results c.runs.totals met.sound l (S.heard_by s) t _ refl refl refl) met.bytes
      (set_book (heard_from_primary m) (append m.book e)) (append-reads l) (more (e ∷ []) (min p.commit.0 (s.op.0 + 1)) refl refl)

  -- refusal 6 by the client's row
  rises-test : not (is_new p.latest e.request) ≡ not (rising (m.book.log ++ (e ∷ [])))
  unfolding model_of book_of
  rises-test =
      ap (λ (l : Rows.Latest). not (is_new l e.request)) met.row
      ∙ row-test (find table e.client).there (find table e.client).request (find table e.client).kept e.request
      ∙ sym (twice-not _)
      ∙ ap not (sym (latest-lift e table (entries s.op.0 c.runs.log) met.latest met.rises))

  abbrev By : PrepareVerdict → Answer → Type 0
  By d a = Goal (by_prepare_verdict d s p x c.out) a

  refuse-shown : (k : Refusal) → By (Refuse k) (refused k)
  unfolding by_prepare_verdict fitted
  refuse-shown k = refl

  next-shown : By (append_verdict s p)
      (when leb s.setup.room (op_of m) then refused PastRoom else
      when not (rising (m.book.log ++ (e ∷ []))) then refused NotRising else
      prepared s.setup (set_book (heard_from_primary m) (append m.book e)) p.commit.0)
  unfolding append_verdict
  next-shown =
      split₂ By _ _ _ _ _ _ (ap (leb s.setup.room) (sym (now-op c table applied))) (λ _. refuse-shown PastRoom)
      (λ f. split₂ By _ _ _ _ _ _ rises-test (λ _. refuse-shown NotRising) (λ _. append-shown (leb-false _ _ f)))

  verdict-shown : By (prepare_verdict s p) (take_prepare s.setup m p.op.0 p.commit.0 p.entry)
  unfolding prepare_verdict take_prepare by_prepare_verdict
  verdict-shown =
      let o = now-op c table applied in
      split₂ By _ _ _ _ _ _ (ap (λ (n : ℕ). ltb (n + 1) p.op.0) (sym o))
      (λ _. transfer-shown c table applied (few s x met.sound) met.looks)
      (λ f.
      split₂ By _ _ _ _ _ _ (earlier p.op.0 (s.op.0 + 1) f ∙ ap (λ (n : ℕ). not (eqb p.op.0 (n + 1))) (sym o)) (λ _. again-shown)
      (λ _. next-shown))

  pub prepare-shown : (v : View)
      → Shown c (of_left c (prepare_step c.state v p (book_runs c.runs) c.out)) (model_of c.state c.runs table applied).book
      (fitted (length c.out) (length c.reps)
      (on_prepare c.state.setup (model_of c.state c.runs table applied) v.0 p.op.0 p.commit.0 p.entry))
  unfolding prepare_step taken_prepare on_prepare
  prepare-shown v =
      accept-shown c table applied v (few s x met.sound) met.looks
      (by_prepare_verdict (prepare_verdict s p) s p x c.out) (take_prepare s.setup m p.op.0 p.commit.0 p.entry) (λ _. verdict-shown)
