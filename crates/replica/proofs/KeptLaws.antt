-- State and memory that calls produced.
--     whole, fit, row-tells, never-1    what the laws of the handlers ask of them
--     goes_on                           a state that one call more leads to
--     reached-safe, reached-settled     what holds of every state that calls lead to
--     Promised, refused-kept            what a call is to leave: the model's answer, and such memory again; a refusal
--     step_kept                         a step of the handlers that shows the model's answer, with the table that follows it
-- Assumes nothing.
use mathlib.Core.Path.{◌≡◌, refl, sym, ap, ◌∙◌, subst}
use mathlib.Core.Bool.{true}
use mathlib.Core.List.{List, [], ◌∷◌, ◌++◌}
use Prim.Native.Nat.{ℕ, ◌≤◌}
use native.Mathlib.Omega.{arith}
use lib.ListN.{length}
use borrow.Author.Tests.{leb-true}
use Rattle.numbers.specs.Words.{when◌then◌else◌}
use Rattle.numbers.proofs.CellLaws.{cells-length}
use Rattle.numbers.proofs.WordLaws.{and_left, and_right}
use Rattle.entries.specs.Entries.{entry_of, entries}
use Rattle.entries.specs.declared.Entry.{Entry}
use Rattle.config.specs.declared.Setup.{Setup}
use Rattle.fees.specs.Results.{outcomes}
use Rattle.fees.specs.Takings.{most_takings}
use Rattle.frames.specs.declared.Message.{Message}
use Rattle.frames.specs.declared.Message.TheVariants.{Request, Prepare, PrepareOk, Commit, GetState, NewState, StartViewChange, DoViewChange, StartView, Recovery, RecoveryResponse}
use Rattle.client_table.specs.Rows.{followed}
use Rattle.client_table.proofs.AlikeLaws.{Coded}
use Rattle.client_table_bytes.specs.Layout.{byte_row, row_of, rows_of}
use Rattle.client_table_bytes.specs.Steps.{RowsLeft}
use Rattle.client_table_bytes.specs.declared.MarkedRow as T
use Rattle.client_table_bytes.proofs.LayoutLaws.{left-size, byte-lawful}
use Rattle.state.specs.Answers.{refusal}
use Rattle.state.specs.Lengths.{table_length}
use Rattle.state.specs.declared.Replica.{Replica}
use Rattle.steps.specs.Recorded.{Recorded, recorded}
use Rattle.handlers.proofs.Stays.{Stays}
use Rattle.handlers.proofs.RunBytes.{RunBytes}
use Rattle.steps.proofs.Ruled.{RuledBy}
use Rattle.model.specs.State.{ClientEntry, State, Sent, Reply, Answer, after}
use Rattle.model.specs.State.Answer.{refused, done}
use Rattle.layout.specs.Layout.{table_in, Ordered, book_of, model_of}
use Rattle.model.specs.Steps.{numbers_ok}
use Rattle.layout.specs.Shown.{Given, Did, Shown}
use Rattle.layout.proofs.RowLift as M
use Rattle.do_view_change.proofs.BeginLift.{memory_of, of_recorded}
use Rattle.layout.proofs.TableLift.{Settled, answers-coded}
use Rattle.layout.proofs.FollowLift.{follow-shown}
use Rattle.replica.proofs.FoundLift.{found-tells}
use Rattle.handlers.proofs.HandlersLift.{RowTells, Fit}
use Rattle.safety.specs.Demand.{Call, answer, run, zeros, Safe}
use Rattle.safety.proofs.Runs.{demand3}
use Rattle.safety.proofs.Latest.{safe-rising, safe-latest}
use Rattle.outside.specs.Calls.{carried_by, told_of, change_by}
use Rattle.outside.proofs.SoundLaws.{Whole, sound-is, is-sound}
use Rattle.replica.specs.Calls.{table_after, following, latest_for, latest_found, found_for, found_by}
use Rattle.replica.specs.Lent.{Lent, Called, called}
use Rattle.replica.specs.Meaning.{runs_of, meaning_of, Owned, Reached, Kept, Done, Means, applied_after}
use Rattle.replica.proofs.TableLaws.{refused-follows, done-follows, table-after}
use Rattle.frames.specs.declared.Refusal.{Refusal}

-- ---- one call more

run_more : (u : Setup) (m : State) (cs : List Call) (c : Call) → run u m (cs ++ c ∷ []) ≡ after (run u m cs) (answer u (run u m cs) c)
unfolding run
run_more u m [] c = refl
run_more u m (b ∷ cs) c = run_more u (after m (answer u m b)) cs c

pub goes_on : (u : Setup) (m : State) (c : Call) → Reached u m → Reached u (after m (answer u m c))
goes_on u m c r =
    record {
      first = r.first;
      created = r.created;
      calls = r.calls ++ c ∷ [];
      is = ap (λ (n : State). after n (answer u n c)) r.is ∙ sym (run_more u r.first r.calls c);
    }

-- what a call with memory x is to leave, given the model's answer a to the state m
abbrev pub Promised : Replica → Lent → State → Called → Answer → Type 0
Promised s x m d a = Means s.setup s x d a × Kept d.answer.state d.lent (applied_after m a)

-- a state that calls lead to is safe, and its takings are in their range
pub reached-safe : (u : Setup) (m : State) → Reached u m → Safe u m
reached-safe u m r = subst (Safe u) (sym r.is) (demand3 u r.first r.created r.calls []).safe

-- and its table is that of log, results and commit number
pub reached-settled : (u : Setup) (m : State) → Reached u m → Settled m.book
reached-settled u m r =
    let s = reached-safe u m r in
    record { table = s.table_is; count = s.results-count; coded = subst Coded (sym s.results-are) (answers-coded (zeros u) m.book.applied) }

takings-in : (u : Setup) (m : State) → Safe u m → m.book.takings ≤ most_takings
unfolding numbers_ok
takings-in u m s = leb-true _ _ (and_left _ _ (and_right _ _ (and_right _ _ (and_right _ _ s.never-1))))

module _ (s : Replica) (x : Lent) (applied : List Entry) (o : Owned x) (k : Kept s x applied) where
  abbrev pub given : Given
  given = record { state = s; runs = runs_of x; out = x.core.out; reps = x.core.reps }

  abbrev pub rows : List ClientEntry
  rows = table_in byte_row (rows_of s.setup.room x.table)

  abbrev m : State
  m = meaning_of s x applied

  pub whole : Whole s x.core (length x.table)
  whole = sound-is s x.core (length x.table) k.sound

  safe : Safe s.setup m
  safe = reached-safe s.setup m k.reached

  pub never-1 : numbers_ok s.setup (meaning_of s x applied) ≡ true
  never-1 = safe.never-1

  pub fit : Fit given rows
  unfolding model_of book_of
  fit =
      record {
        gathering = whole.gathering;
        log-ok = k.log-ok;
        log-bytes = o.log;
        totals = o.totals;
        stored = record { logs = k.stored_ok; bytes = o.stored; seven = k.rows-count };
        rises = safe-rising s.setup m safe;
        known = safe-latest s.setup m safe;
      }

  tells : (e : Entry) → RowTells rows (Request e) (latest_for (Request e) s.setup.room x.table)
  unfolding latest_for latest_found found_for found_by carried_by
  tells e = found-tells (rows_of s.setup.room x.table) e.client k.ordered

  pub row-tells : (y : Message) → RowTells rows y (latest_for y s.setup.room x.table)
  unfolding latest_for latest_found found_for found_by carried_by
  row-tells (Request e) = tells e
  row-tells (Prepare v a c e) = tells e
  row-tells (PrepareOk v a r) = tt
  row-tells (Commit v c) = tt
  row-tells (GetState r v a) = tt
  row-tells (NewState v a z c) = tt
  row-tells (StartViewChange v r) = tt
  row-tells (DoViewChange v r l a c) = tt
  row-tells (StartView v a c) = tt
  row-tells (Recovery r n v) = tt
  row-tells (RecoveryResponse v n r t) = tt

  -- ---- a refusal

  pub refused-kept : (i : Refusal) (d : Called) → d ≡ called (refusal i s) x → Promised s x (meaning_of s x applied) d (refused i)
  unfolding after model_of book_of
  refused-kept i d e = (e, subst (λ (y : Called). Kept y.answer.state y.lent applied) (sym e) k)

  -- ---- done

  module _ (d : Recorded) (m' : State) (ms : List Sent) (rs : List Reply) (did : Did given (of_recorded d) m.book m' ms rs) (stays : Stays s d)
      (ruled : RuledBy d) (bytes : RunBytes d.memory.runs) (r : Reached s.setup m') where
    abbrev t : Replica
    t = d.answer.state

    abbrev now : List T.MarkedRow
    now =
        followed byte_row (change_by s d.answer) (rows_of s.setup.room x.table) (entries t.op.0 d.memory.runs.log)
        (outcomes t.commit.0 d.memory.runs.money.results)

    abbrev left : Lent
    left =
        record {
          core = d.memory;
          table =
              table_after s.setup.room (change_by s d.answer) x.table d.memory.runs.log d.memory.runs.money.results;
        }

    table-le : length rows ≤ s.op.0
    unfolding model_of book_of
    table-le = omega (arith, safe.table_fits, cells-length 32 entry_of s.op.0 x.core.runs.log)

    op_le : t.op.0 ≤ s.setup.room
    op_le = subst (λ (u : Setup). t.op.0 ≤ u.room) stays.setup stays.gathering.sound.op_le

    means : M.Means byte_row s.setup.room m'.book.table now
    means =
        follow-shown given (of_recorded d) rows applied m' ms rs did byte_row byte-lawful s.setup.room (rows_of s.setup.room x.table)
        (record { long = cells-length 25 row_of s.setup.room x.table; table = refl; ordered = k.ordered })
        table-le op_le (reached-settled s.setup m' r)

    table-left : RowsLeft s.setup.room x.table left.table now
    table-left =
        table-after s.setup.room (change_by s d.answer) x.table d.memory.runs.log d.memory.runs.money.results o.table
        bytes.log bytes.money.results means.long

    rows_are : rows_of t.setup.room left.table ≡ now
    rows_are = ap (λ (u : Setup). rows_of u.room left.table) stays.setup ∙ table-left.rows

    state-is : meaning_of t left m'.book.applied ≡ m'
    state-is =
        ap (λ (l : List ClientEntry). model_of t (runs_of left) l m'.book.applied) (ap (table_in byte_row) rows_are ∙ means.table) ∙ did.state

    -- the sum of a state that calls lead to is in its range
    takings-most : t.takings ≤ most_takings
    unfolding model_of book_of
    takings-most = omega (arith, takings-in s.setup m' (reached-safe s.setup m' r), ap (λ (q : State). q.book.takings) did.state)

    left-whole : Whole t left.core (length left.table)
    left-whole =
        record {
          gathering = stays.gathering;
          takings-le = takings-most;
          table-long =
              left-size (omega (arith, whole.table-long)) table-left ∙ whole.table-long ∙ ap table_length (sym stays.setup);
        }

    left-kept : Kept t left m'.book.applied
    left-kept =
        record {
          sound = is-sound t left.core (length left.table) left-whole;
          log-ok = ruled.log;
          rows-count = ruled.seven;
          stored_ok = ruled.stored;
          ordered = subst (Ordered byte_row) (sym rows_are) means.ordered;
          reached =
              subst (λ (u : Setup). Reached u (meaning_of t left m'.book.applied)) (sym stays.setup)
              (subst (Reached s.setup) (sym state-is) r);
        }

    left-done : Done s.setup x (called d.answer left) m' ms rs
    left-done =
        record {
          code = did.code;
          setup = stays.setup;
          state = state-is;
          messages = did.messages;
          out = did.out;
          replies = did.replies;
          reps = did.reps;
        }

    done-kept : Promised s x m (following s x.table d) (done m' ms rs)
    unfolding after
    done-kept =
        subst (λ (y : Called). Promised s x m y (done m' ms rs)) (sym (done-follows s x.table d did.code))
        (left-done, left-kept)

  pub step_kept : (d : Recorded) (a : Answer) → Shown given (of_recorded d) (meaning_of s x applied).book a → Stays s d → RuledBy d
      → RunBytes d.memory.runs → Reached s.setup (after (meaning_of s x applied) a)
      → Promised s x (meaning_of s x applied) (following s x.table d) a
  unfolding after
  step_kept d (done m' ms rs) did stays ruled bytes r = done-kept d m' ms rs did stays ruled bytes r
  step_kept d (refused i) e stays ruled bytes r =
      refused-kept i (following s x.table d)
      (ap (following s x.table) is
      ∙ refused-follows s i x.table o.table whole.table-long x.core)
    where
      is : d ≡ recorded (refusal i s) x.core
      is = λ j. recorded (e j).answer (memory_of (record { state = s; runs = (e j).runs; out = (e j).out; reps = (e j).reps }))
