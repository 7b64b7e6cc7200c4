-- The client table after a call.
--     refused-follows               a refusal leaves the table as it was, byte for byte
--     done-follows                  else it is brought up to what the call did
--     table-after                   which rows that leaves, byte for byte and as they are read again
-- Assumes nothing.
use mathlib.Core.Path.{◌≡◌, refl, sym, ap, ◌∙◌, subst}
use mathlib.Core.Bool.{not}
use mathlib.Core.List.{List, [], ◌∷◌, ◌++◌}
use Prim.Native.Nat.{ℕ, ◌*◌}
use native.Mathlib.Omega.{arith}
use lib.Dec.{eqb}
use lib.ListN.{length, drop, drop_of_length-le}
use Rattle.numbers.specs.Words.{when◌then◌else◌}
use Rattle.numbers.specs.Numbers.{Bytes}
use Rattle.numbers.specs.Cells.{packed}
use Rattle.numbers.proofs.WordLaws.{split, if-false}
use Rattle.numbers.proofs.CellLaws.{cells-length}
use Rattle.entries.specs.Entries.{entry_of, entries}
use Rattle.entries.specs.declared.Entry.{Entry}
use Rattle.fees.specs.Results.{result_of, outcomes}
use Rattle.client_table.specs.Rows.{appended, rows_committed, followed}
use Rattle.client_table.specs.declared.Change.{Change}
use Rattle.client_table_bytes.specs.Layout.{byte_row, encode_row, rows_of}
use Rattle.client_table_bytes.specs.Steps.{RowsLeft}
use Rattle.client_table_bytes.specs.declared.MarkedRow.{MarkedRow}
use Rattle.client_table_bytes.proofs.LayoutLaws.{left-same}
use Rattle.state.specs.Answers.{refusal, code_of}
use Rattle.state.specs.Lengths.{table_length}
use Rattle.state.specs.declared.Replica.{Replica}
use Rattle.steps.specs.Recorded.{Recorded, recorded}
use Rattle.book.specs.Memory.{Memory}
use Rattle.safety.proofs.Ranges.{entries_fit}
use Rattle.outside.specs.Calls.{change_by}
use Rattle.replica.specs.Calls.{table_after, Tabled, followed_by, with_table, following}
use Rattle.replica.specs.Lent.{called}
use Rattle.replica.proofs.RowLaws.{rows_fit, results_fit, followed-fits, read_back}
use Rattle.frames.specs.declared.Refusal.{Refusal}
use Rattle.frames.specs.Refusals.{number_of}

-- ---- nothing changed

none-replied : (xs : List MarkedRow) (es : List Entry) → rows_committed byte_row xs es [] ≡ xs
unfolding rows_committed
none-replied xs [] = refl
none-replied xs (e ∷ es) = refl

module _ (s : Replica) (i : Refusal) where
  abbrev still : Change
  still = change_by s (refusal i s)

  same_rows : (xs : List MarkedRow) (log results : List ℕ)
      → followed byte_row still xs (entries s.op.0 log) (outcomes s.commit.0 results) ≡ xs
  unfolding followed appended when◌then◌else◌
  same_rows xs log results =
      let p : drop s.op.0 (entries s.op.0 log) ≡ [] =
      drop_of_length-le (entries s.op.0 log) {i = s.op.0} (omega (arith, cells-length 32 entry_of s.op.0 log)) in
      let q : drop s.commit.0 (outcomes s.commit.0 results) ≡ [] =
      drop_of_length-le (outcomes s.commit.0 results) {i = s.commit.0} (omega (arith, cells-length 9 result_of s.commit.0 results)) in
      rw (p, q) (none-replied xs (drop s.commit.0 (entries s.op.0 log)))

  module _ (table : List ℕ) (b : Bytes table) (l : length table ≡ table_length s.setup) where
    same-table : (log results : List ℕ) → table_after s.setup.room still table log results ≡ table
    unfolding table_after
    same-table log results =
        ap (λ (xs : List MarkedRow). packed encode_row xs ++ drop (25 * s.setup.room) table) (same_rows (rows_of s.setup.room table) log results)
        ∙ sym (left-same s.setup.room table b (omega (arith, l))).bytes

    pub refused-follows : (m : Memory)
        → following s table (recorded (refusal i s) m) ≡ called (refusal i s) (record { core = m; table = table })
    unfolding following followed_by when◌then◌else◌
    refused-follows m =
        split (λ (t : Tabled). with_table m t ≡ called (refusal i s) (record { core = m; table = table })) (not (eqb (number_of i) 0)) _ _ (λ _. refl)
        (λ _.
        ap (λ (t : List ℕ). called (refusal i s) (record { core = m; table = t }))
        (same-table m.runs.log m.runs.money.results))

-- ---- what a call did

pub done-follows : (s : Replica) (table : List ℕ) (d : Recorded) → code_of d.answer ≡ 0
    → following s table d
    ≡ called d.answer
    (record {
      core = d.memory;
      table =
          table_after s.setup.room (change_by s d.answer) table d.memory.runs.log d.memory.runs.money.results;
    })
unfolding following followed_by
done-follows s table d e =
    ap (λ (t : Tabled). with_table d.memory t) (if-false _ _ _ (ap (λ (k : ℕ). not (eqb k 0)) e))

module _ (n : ℕ) (k : Change) (table : List ℕ) where
  pub table-after : (log results : List ℕ) → Bytes table → Bytes log → Bytes results
      → length (followed byte_row k (rows_of n table) (entries k.to.0 log) (outcomes k.done.0 results)) ≡ n
      → RowsLeft n table (table_after n k table log results)
      (followed byte_row k (rows_of n table) (entries k.to.0 log) (outcomes k.done.0 results))
  unfolding table_after
  table-after log results b l r e =
      let rows = followed byte_row k (rows_of n table) (entries k.to.0 log) (outcomes k.done.0 results) in
      let bytes = packed encode_row rows ++ drop (25 * n) table in
      record {
        bytes = refl;
        rows =
            subst (λ (j : ℕ). rows_of j bytes ≡ rows) e
            (read_back rows (drop (25 * n) table)
            (followed-fits k _ _ _ (entries_fit k.to.0 log l) (results_fit k.done.0 results r) (rows_fit n table b)));
      }
