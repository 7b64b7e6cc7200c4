-- The beginning of a view, lifted to the model.
--     begun-messages, begun-replies    how many bytes go out
--     begun-did                        what it leaves
-- Assumes nothing.
use Prim.Native.Nat.{ℕ, ◌+◌, ◌*◌, ◌≤◌}
use native.Mathlib.Nat.{zero-add}
use native.Mathlib.Omega.{arith}
use mathlib.Core.Path.{◌≡◌, refl, sym, ap, ◌∙◌, subst}
use mathlib.Core.Bool.{Bool, true, false}
use mathlib.Core.List.{List, ◌++◌}
use lib.ListN.{length, take, length-append, length-replicate}
use lib.Seq.{take_at, length-take-le}
use Rattle.numbers.specs.Words.{when◌then◌else◌}
use Rattle.numbers.specs.Numbers.{over, put_at, Bytes}
use Rattle.numbers.specs.Cells.{packed}
use Rattle.numbers.specs.declared.Op.{Op}
use Rattle.numbers.proofs.CellLaws.{cells-length, packed-append}
use Rattle.entries.specs.Entries.{entry_of, encode_entry, entries, entries_ok}
use Rattle.entries.specs.declared.Entry.{Entry}
use Rattle.entries.proofs.PlaceLaws.{place_is}
use Rattle.config.proofs.SetupLaws.{sized}
use Rattle.frames.specs.declared.Status.TheVariants.{Normal}
use Rattle.frames.specs.declared.Message.TheVariants.{StartView}
use Rattle.writers.specs.Writers as W
use Rattle.writers.specs.Writers.{size_of, length_of}
use Rattle.writers.proofs.WriterLaws.{others-length}
use Rattle.book.specs.Log.{with_entries}
use Rattle.book.specs.Runs.{money_committed, replies}
use Rattle.book.specs.Memory.{Money, money, Memory, memory}
use Rattle.book.proofs.RunLaws.{replies-length}
use Rattle.state.specs.Statuses.{is_recovering}
use Rattle.state.specs.declared.Replica.{Replica}
use Rattle.steps.specs.Steps.{committed_to}
use Rattle.do_view_change.specs.Begin.{calls_first, first_length, start_views_length, start_views_of, own_acks, entered, owed, begun_in, begin_step}
use Rattle.steps.specs.Recorded.{Recorded, Gathering}
use Rattle.do_view_change.specs.Record.{started_by}
use Rattle.model.specs.State.{op_number, ClientEntry, Book, State, Sent, op_of}
use Rattle.model.specs.Book.{due_entries, commit_up_to, commit_replies, install}
use Rattle.model.specs.Sending.{sent_bytes, messages_out, replies_out, start_view_of, start_view_to_others}
use Rattle.model.specs.ViewChange.{no_reports, own_vote, cleared_store, enter_normal, acks_from, started_with}
use Rattle.layout.specs.Layout.{LentRuns, store_of, book_of, model_of}
use Rattle.layout.specs.Shown.{Given, Step, Grew, Did}
use Rattle.layout.specs.Shown.Grew.{anew}
use Rattle.model.proofs.BookLaws.{commit_all-log}
use Rattle.layout.proofs.BookLift.{install-lift, settle-lift, settle-replies}
use Rattle.model.proofs.LogLift.{packed-log}
use Rattle.steps.proofs.StepLift.{reports-cleared}
use Rattle.steps.proofs.SendLift.{others-bytes, told-did}
use Rattle.numbers.proofs.RunLaws.{over-all}

-- the lent runs and areas of a step
abbrev pub memory_of : Given → Memory
memory_of c =
    memory c.runs.log c.runs.results c.runs.totals c.runs.acks c.runs.stored c.out c.reps

-- what a step leaves that may change all of them
abbrev pub of_recorded : Recorded → Step
of_recorded d =
    record {
      answer = d.answer;
      runs =
          record {
            log = d.memory.runs.log;
            results = d.memory.runs.money.results;
            totals = d.memory.runs.money.totals;
            acks = d.memory.acks;
            stored = d.memory.stored;
          };
      out = d.memory.out;
      reps = d.memory.reps;
    }

-- The state t to go on from: the replica's own, or what a view change made of it. What refusal 1 leaves, and the rules of the entries.
pub record Changing (c : Given) (t : Replica) : Type 0 where
  pub gathering : Gathering t (memory_of c)
  pub setup : t.setup ≡ c.state.setup
  pub op : t.op ≡ c.state.op
  pub commit : t.commit ≡ c.state.commit
  pub takings : t.takings ≡ c.state.takings
  pub looks : is_recovering t.status ≡ false
  pub totals : Bytes c.runs.totals
  pub log-ok : entries_ok t.op.0 c.runs.log ≡ true
  pub log-bytes : Bytes c.runs.log

-- what went out first, in the model
pub record First (t : Replica) (first : Bool) (ms : List Sent) : Type 0 where
  pub bytes : messages_out ms ≡ calls_first first t
  pub long : length (calls_first first t) ≡ first_length first t

module _ (c : Given) (t : Replica) (table : List ClientEntry) (applied : List Entry) (h : Changing c t) (first : Bool) (ms : List Sent) (f : First t first ms) where
  abbrev m : State
  m = model_of t c.runs table applied

  -- a log of o entries in `part`, to be money_committed up to g
  module _ (o g : Op) (part : List ℕ) (o-le : o.0 ≤ t.setup.room) (c-le : t.commit.0 ≤ o.0) (g-le : g.0 ≤ o.0)
      (long : 32 * o.0 ≤ length part) (ok : entries_ok o.0 part ≡ true) (bytes : Bytes part) where
    abbrev pub fresh-book : Book
    fresh-book = install m.book (entries o.0 part)

    abbrev pub after : State
    after = started_with t.setup m (commit_up_to fresh-book g.0)

    -- the log as it was installed
    abbrev log : List ℕ
    log = with_entries 0 (take (32 * o.0) part) c.runs.log

    -- results and totals, before and after the commits
    abbrev x : Money
    x = money c.runs.results c.runs.totals

    abbrev y : Money
    y = money_committed t.setup.members log t.commit.0 (owed t g) x

    -- the state after it
    abbrev u : Replica
    u = committed_to (entered t o) g (record { log = log; money = x })

    wide : 8 * t.setup.members ≤ length c.runs.totals
    wide = omega (arith, h.gathering.sound.totals-long)

    results-room : 9 * o.0 ≤ length c.runs.results
    results-room = omega (arith, h.gathering.sound.results-long, o-le)

    -- ---- the book

    fresh-book-is : book_of t.setup.members o.0 t.commit.0 log x t.takings fresh-book.table applied ≡ fresh-book
    unfolding model_of
    fresh-book-is =
        ap (λ (n : ℕ). book_of t.setup.members n t.commit.0 log x t.takings fresh-book.table applied) (sym (zero-add o.0))
        ∙ install-lift t.setup.members t.op.0 t.commit.0 c.runs.log x t.takings table applied 0 o.0 part (omega arith)
        (omega (arith, h.gathering.sound.log-long, place_is (0 + o.0), o-le)) long

    abbrev book-after : Book
    book-after = commit_up_to fresh-book g.0

    book-is : book_of t.setup.members o.0 u.commit.0 log y u.takings book-after.table book-after.applied ≡ book-after
    book-is =
        subst
        (λ (b : Book).
        book_of t.setup.members o.0 u.commit.0 log y u.takings (commit_up_to b g.0).table (commit_up_to b g.0).applied
        ≡ commit_up_to b g.0)
        fresh-book-is
        (settle-lift t.setup.members log t.commit.0 x h.totals wide o.0 t.takings fresh-book.table applied g.0 results-room c-le g-le)

    commit-is : book-after.commit ≡ u.commit.0
    unfolding book_of
    commit-is = sym (ap (λ (b : Book). b.commit) book-is)

    log_is : book-after.log ≡ entries o.0 part
    unfolding commit_up_to install
    log_is = commit_all-log fresh-book (due_entries fresh-book g.0)

    op-is : length book-after.log ≡ o.0
    op-is = ap length log_is ∙ cells-length 32 entry_of o.0 part

    -- ---- the state

    store_is : store_of u c.runs.stored ≡ cleared_store t.setup m
    unfolding model_of store_of cleared_store no_reports is_recovering when◌then◌else◌
    store_is = rw (reports-cleared t.setup c.runs.stored (sized t.setup h.gathering.sound.sized).seven, h.looks)

    own-acks-long : length (own_acks u) ≡ length c.runs.acks
    unfolding own_acks
    own-acks-long =
        simp (length-append, length-replicate) (omega (arith, h.gathering.acks-long, o-le, c-le, g-le))

    acks-are : over (own_acks u) c.runs.acks ≡ acks_from t.setup book-after.commit (length book-after.log)
    unfolding own_acks acks_from own_vote
    acks-are = over-all (own_acks u) c.runs.acks own-acks-long ∙ λ i. acks_from t.setup (sym commit-is i) (sym op-is i)

    -- the runs after it
    abbrev left : LentRuns
    left =
        record {
          log = log;
          results = y.results;
          totals = y.totals;
          acks = over (own_acks u) c.runs.acks;
          stored = c.runs.stored;
        }

    reads : model_of u left after.book.table after.book.applied ≡ after
    unfolding model_of started_with enter_normal
    reads =
        λ i. record {
          place = record { status = Normal; view = t.view.0; last_normal = t.view.0; catching_up = false };
          book = book-is i;
          votes = record { acks = acks-are i; starts = 0; sent = false };
          store = store_is i;
          clock = u.clock;
        }

    -- t differs from the state as it was in nothing that the book is read from
    book-same : m.book ≡ (model_of c.state c.runs table applied).book
    unfolding model_of
    book-same =
        λ i. book_of (h.setup i).members (h.op i).0 (h.commit i).0 c.runs.log x (h.takings i) table applied

    grew : Grew (model_of c.state c.runs table applied).book true after.book
    unfolding started_with enter_normal
    grew =
        anew (entries o.0 part) g.0 refl
        (ap (λ (b : Book). commit_up_to (install b (entries o.0 part)) g.0) book-same)

    -- ---- messages

    log-bytes-are : take (32 * o.0) log ≡ take (32 * o.0) part
    unfolding with_entries put_at over
    log-bytes-are = take_at (take (32 * o.0) part) _ (32 * o.0) (length-take-le (32 * o.0) part long)

    start-views-bytes : messages_out (start_view_to_others t.setup after) ≡ start_views_of u log
    unfolding start_view_to_others start_view_of op_of started_with enter_normal model_of
    start-views-bytes =
        others-bytes t.setup (start_view_of after) after.book.log
        ∙ λ i. W.to_others t.setup.n t.setup.id
        (StartView t.view (op_number (op-is i)) (op_number (commit-is i)))
        ((ap (packed encode_entry) log_is ∙ packed-log o.0 part ok bytes long ∙ sym log-bytes-are) i)

    start-views-long : length (start_views_of u log) ≡ start_views_length u
    unfolding size_of length_of
    start-views-long =
        others-length t.setup.id (StartView u.view u.op u.commit) (take (32 * o.0) log)
        (ap length log-bytes-are ∙ length-take-le (32 * o.0) part long)
        t.setup.n (sized t.setup h.gathering.sound.sized).own

    out-bytes : messages_out (ms ++ start_view_to_others t.setup after) ≡ calls_first first t ++ start_views_of u log
    unfolding messages_out
    out-bytes = packed-append sent_bytes ms (start_view_to_others t.setup after) ∙ λ i. f.bytes i ++ start-views-bytes i

    out-long : length (calls_first first t ++ start_views_of u log) ≡ first_length first t + start_views_length u
    out-long = length-append (calls_first first t) (start_views_of u log) ∙ λ i. f.long i + start-views-long i

    -- refusals 9 and 10 compare the same numbers
    pub begun-messages : length (messages_out (ms ++ start_view_to_others t.setup after)) ≡ first_length first t + start_views_length (entered t o)
    begun-messages = ap length out-bytes ∙ out-long

    -- ---- replies

    replies-are : replies t.view log y.results t.commit.0 (owed t g) ≡ replies_out (commit_replies m.place.view fresh-book g.0)
    unfolding model_of
    replies-are =
        settle-replies t.view t.setup.members log t.commit.0 x h.totals wide o.0 t.takings fresh-book.table applied g.0
        results-room c-le g-le
        ∙ ap (λ (b : Book). replies_out (commit_replies t.view.0 b g.0)) fresh-book-is

    replies-long : length (replies t.view log y.results t.commit.0 (owed t g)) ≡ 36 * owed t g
    replies-long = replies-length t.view log y.results t.commit.0 (owed t g)

    pub begun-replies : length (replies_out (commit_replies m.place.view fresh-book g.0)) ≡ 36 * owed t g
    begun-replies = ap length (sym replies-are) ∙ replies-long

    pub begun-did : Did c
        (of_recorded (started_by t o g first (with_entries 0 (take (32 * o.0) part) c.runs.log) (memory_of c)))
        (model_of c.state c.runs table applied).book
        after (ms ++ start_view_to_others t.setup after) (commit_replies m.place.view fresh-book g.0)
    unfolding started_by begin_step begun_in
    begun-did =
        told-did c u left true (model_of c.state c.runs table applied).book after h.setup reads grew
        (ms ++ start_view_to_others t.setup after) (commit_replies m.place.view fresh-book g.0) _ _ _ _
        out-bytes out-long (sym replies-are) replies-long
