-- The rows after a step of the handlers, and the same rows in bytes.
--     refused-rows                a refusal leaves the rows
--     Keeps                       what a call over row structs is to leave
--     table-read                  the rows, read from their bytes
--     refused-keeps, step_same    a refusal; a step that shows the model's answer, with the rows that follow it
-- Assumes nothing.
use Rattle.std.specs.Prelude.{Result, Ok, Err, is_err, ◌≡◌, ℕ, ◌*◌, false, eqb, List, [], ◌++◌, map, length, drop}
use mathlib.Core.Path.{refl, sym, ap, ◌∙◌, subst}
use mathlib.Core.List.{append-nil}
use native.Mathlib.Omega.{arith}
use lib.ListN.{drop_of_length-le}
use borrow.Author.Tests.{eq-eqb}
use Rattle.numbers.specs.Words.{when◌then◌else◌}
use Rattle.numbers.specs.Cells.{packed}
use Rattle.numbers.proofs.WordLaws.{split, if-true, if-false}
use Rattle.numbers.proofs.CellLaws.{cells-length}
use Rattle.entries.specs.Entries.{entry_of, entries}
use Rattle.entries.specs.declared.Entry.{Entry}
use Rattle.fees.specs.Results.{result_of, outcomes}
use Rattle.fees.specs.declared.Outcome.{Outcome}
use Rattle.client_table.specs.Rows.{followed}
use Rattle.client_table.specs.declared.Change.{Change}
use Rattle.client_table.proofs.Turns.{append-none, follow-appended}
use Rattle.client_table.proofs.AlikeLaws.{Coded}
use Rattle.client_table_bytes.specs.Layout.{byte_row, encode_row, rows_of}
use Rattle.client_table_bytes.specs.declared.MarkedRow as B
use Rattle.client_table_structs.specs.Shape.{struct_row}
use Rattle.client_table_structs.specs.declared.Row.{Row}
use Rattle.state.specs.Answers.{refusal, installed_of}
use Rattle.state.specs.declared.Replica.{Replica}
use Rattle.book.specs.Memory.{Memory}
use Rattle.steps.specs.Recorded.{Recorded, recorded}
use Rattle.handlers.proofs.RunBytes.{RunBytes}
use Rattle.model.specs.State.{State, Sent, Reply, Answer}
use Rattle.model.specs.State.Answer.{refused, done}
use Rattle.layout.specs.Layout.{book_of, model_of}
use Rattle.layout.specs.Shown.{Did, Shown}
use Rattle.do_view_change.proofs.BeginLift.{memory_of, of_recorded}
use Rattle.safety.proofs.Ranges.{entries_fit}
use Rattle.outside.specs.Calls.{change_by}
use Rattle.outside.proofs.SoundLaws.{Whole}
use Rattle.replica.specs.Calls.{table_after, following}
use Rattle.replica.specs.Lent.{Lent, Called, called}
use Rattle.replica.specs.Meaning.{meaning_of, Owned}
use Rattle.replica.proofs.RowLaws.{results_fit}
use Rattle.replica.proofs.TableLaws.{refused-follows, done-follows}
use Rattle.replica.proofs.KeptLaws.{given, whole, reached-settled}
use Rattle.replica_structs.specs.Core.{no_change, change_after}
use Rattle.replica_structs.specs.Calls.{LentRows, CalledRows, called_rows, rows_after, following_rows}
use Rattle.replica_structs.specs.Promise.{byte_of, table_bytes, in_bytes, called_bytes, RowsOk, KeptRows}
use Rattle.replica_structs.proofs.CodedLaws.{grew-coded}
use Rattle.replica_structs.proofs.ByteLaws.{followed_same, followed-ok, bytes-long, rows-read}
use Rattle.frames.specs.declared.Refusal.{Refusal}
use Rattle.frames.proofs.RefusalLaws.{number-some}
use Rattle.state.specs.Answers.{outcome_code}
use Rattle.state.specs.declared.Output.{Output}

-- ---- nothing changed

still : (k : Change) (xs : List Row) (m : Memory) → k.installed ≡ false → k.to.0 ≡ k.op.0 → k.done.0 ≡ k.commit.0
    → rows_after k xs m ≡ xs
unfolding rows_after
still k xs m i t d =
    let log = entries k.to.0 m.runs.log in
    let os = outcomes k.done.0 m.runs.money.results in
    let p : drop k.op.0 log ≡ [] = drop_of_length-le log {i = k.op.0} (omega (arith, cells-length 32 entry_of k.to.0 m.runs.log, t)) in
    let q : drop k.commit.0 os ≡ [] =
    drop_of_length-le os {i = k.commit.0} (omega (arith, cells-length 9 result_of k.done.0 m.runs.money.results, d)) in
    sym (follow-appended struct_row k xs log os i xs (sym (append-none struct_row xs (drop k.op.0 log) p)) q)

pub refused-rows : (s : Replica) (table : List Row) (i : Refusal) (m : Memory)
    → following_rows s table (recorded (refusal i s) m) ≡ called_rows (refusal i s) (record { core = m; table = table })
unfolding following_rows change_after when◌then◌else◌
refused-rows s table i m = rw (still no_change table m refl refl refl)

-- a call whose number is 0 isn't refused
not-err : (o : Result Output Refusal) → outcome_code o ≡ 0 → is_err o ≡ false
not-err (Ok d) h = refl
not-err (Err k) h = absurd (number-some k h)

-- ---- a step

-- what a call over row structs leaves, e being what the call over the byte table does
pub record Keeps (d : CalledRows) (e : Called) : Type 0 where
  pub same : called_bytes d ≡ e
  pub rows : RowsOk d.lent.table

module _ (s : Replica) (x : LentRows) (applied : List Entry) (o : Owned (in_bytes x)) (kept : KeptRows s x applied) where
  abbrev y : Lent
  y = in_bytes x

  whole_is : Whole s y.core (length y.table)
  whole_is = whole s y applied o kept.kept

  -- a row for each of the log's places
  room-is : length x.table ≡ s.setup.room
  room-is = omega (arith, bytes-long x.table, whole_is.table-long)

  pub table-read : rows_of s.setup.room (table_bytes x.table) ≡ map byte_of x.table
  table-read = ap (λ (n : ℕ). rows_of n (table_bytes x.table)) (sym room-is) ∙ rows-read x.table kept.rows

  pub refused-keeps : (i : Refusal)
      → Keeps (following_rows s x.table (recorded (refusal i s) x.core)) (called (refusal i s) (in_bytes x))
  refused-keeps i =
      subst (λ (d : CalledRows). Keeps d (called (refusal i s) y)) (sym (refused-rows s x.table i x.core))
      (record { same = refl; rows = kept.rows })

  module _ (d : Recorded) (m' : State) (ms : List Sent) (rs : List Reply)
      (did : Did (given s y applied o kept.kept) (of_recorded d) (meaning_of s y applied).book m' ms rs)
      (bytes : RunBytes d.memory.runs) where
    abbrev k : Change
    k = change_by s d.answer

    abbrev log : List Entry
    log = entries k.to.0 d.memory.runs.log

    abbrev os : List Outcome
    os = outcomes k.done.0 d.memory.runs.money.results

    coded : Coded os
    unfolding model_of book_of
    coded =
        subst Coded (sym (ap (λ (m : State). m.book.results) did.state))
        (grew-coded (meaning_of s y applied).book m'.book (installed_of d.answer)
        (reached-settled s.setup (meaning_of s y applied) kept.kept.reached).coded did.grew)

    table_same : table_after s.setup.room k (table_bytes x.table) d.memory.runs.log d.memory.runs.money.results
        ≡ table_bytes (rows_after k x.table d.memory)
    unfolding table_after rows_after table_bytes
    table_same =
        ap
        (λ (l : List ℕ). packed encode_row (followed byte_row k (rows_of s.setup.room (table_bytes x.table)) log os) ++ l)
        (drop_of_length-le (table_bytes x.table) {i = 25 * s.setup.room} (omega (arith, whole_is.table-long)))
        ∙ append-nil (packed encode_row (followed byte_row k (rows_of s.setup.room (table_bytes x.table)) log os))
        ∙ ap (λ (l : List B.MarkedRow). packed encode_row (followed byte_row k l log os)) table-read
        ∙ ap (packed encode_row) (sym (followed_same k x.table kept.rows log os coded))

    change-is : change_after s d.answer ≡ change_by s d.answer
    unfolding change_after
    change-is = if-false _ _ _ (not-err _ did.code)

    rows_are : following_rows s x.table d
        ≡ called_rows d.answer
        (record { core = d.memory; table = rows_after k x.table d.memory })
    unfolding following_rows
    rows_are =
        ap
        (λ (c : Change). called_rows d.answer
        (record { core = d.memory; table = rows_after c x.table d.memory })) change-is

    done-keeps : Keeps (following_rows s x.table d) (following s y.table d)
    unfolding rows_after
    done-keeps =
        subst (λ (z : CalledRows). Keeps z (following s y.table d)) (sym rows_are)
        record {
          same =
              sym
              (done-follows s y.table d did.code
              ∙ (λ i. called d.answer (record { core = d.memory; table = table_same i })));
          rows =
              followed-ok k x.table kept.rows log os coded (entries_fit k.to.0 d.memory.runs.log bytes.log)
              (results_fit k.done.0 d.memory.runs.money.results bytes.money.results);
        }

  pub step_same : (d : Recorded) (a : Answer) → Shown (given s (in_bytes x) applied o kept.kept) (of_recorded d) (meaning_of s (in_bytes x) applied).book a
      → RunBytes d.memory.runs → Keeps (following_rows s x.table d) (following s (table_bytes x.table) d)
  step_same d (done m' ms rs) did bytes = done-keeps d m' ms rs did bytes
  step_same d (refused i) e bytes =
      subst (λ (z : Recorded). Keeps (following_rows s x.table z) (following s y.table z)) (sym is)
      (subst (Keeps (following_rows s x.table (recorded (refusal i s) x.core)))
      (sym (refused-follows s i y.table o.table whole_is.table-long x.core)) (refused-keeps i))
    where
      is : d ≡ recorded (refusal i s) x.core
      is = λ j. recorded (e j).answer (memory_of (record { state = s; runs = (e j).runs; out = (e j).out; reps = (e j).reps }))
