-- The table follows a step: where the step shows the model's answer, the rows are the model's table before it, and the book after it has the
-- table of its log, the rows brought up to the step's change are the model's table after it. So the core needs no table. Assumes nothing.
use Prim.Native.Nat.{ℕ, ◌≤◌}
use native.Mathlib.Omega.{arith}
use mathlib.Core.Path.{◌≡◌, refl, sym, ap, ◌∙◌, subst}
use mathlib.Core.List.{List}
use lib.ListN.{length}
use Rattle.numbers.proofs.CellLaws.{cells-length}
use Rattle.entries.specs.Entries.{entry_of, entries}
use Rattle.entries.specs.declared.Entry.{Entry}
use Rattle.fees.specs.Results.{result_of, outcomes}
use Rattle.client_table.specs.Rows.{followed}
use Rattle.client_table.specs.Shape.{Shape}
use Rattle.client_table.specs.Lawful.{Lawful}
use Rattle.model.specs.State.{ClientEntry, Book, State, Sent, Reply}
use Rattle.layout.specs.Layout.{book_of, model_of}
use Rattle.layout.specs.Shown.{Given, Step, Grew, Did, change_of}
use Rattle.layout.specs.Shown.Grew.{more, anew}
use Rattle.layout.proofs.RowLift.{Means}
use Rattle.layout.proofs.TableLift.{Reads, Settled, follow-append, follow-install}
use Rattle.state.specs.Answers.{installed_of}

module _ (c : Given) (d : Step) (table : List ClientEntry) (applied : List Entry) (m' : State) (ms : List Sent) (rs : List Reply)
    (did : Did c d (model_of c.state c.runs table applied).book m' ms rs) where
  abbrev b : Book
  b = (model_of c.state c.runs table applied).book

  abbrev log : List Entry
  log = entries d.answer.state.op.0 d.runs.log

  log_is : entries d.answer.state.op.0 d.runs.log ≡ m'.book.log
  unfolding model_of book_of
  log_is = ap (λ (m : State). m.book.log) did.state

  results-are : outcomes d.answer.state.commit.0 d.runs.results ≡ m'.book.results
  unfolding model_of book_of
  results-are = ap (λ (m : State). m.book.results) did.state

  reads : (a : Book) → m'.book ≡ a → Reads (change_of c d) b a log (outcomes d.answer.state.commit.0 d.runs.results)
  unfolding model_of book_of
  reads a e =
      record {
        op = sym (cells-length 32 entry_of c.state.op.0 c.runs.log);
        commit = refl;
        results = cells-length 9 result_of c.state.commit.0 c.runs.results;
        log_is = log_is ∙ ap (λ (q : Book). q.log) e;
        results-are = results-are ∙ ap (λ (q : Book). q.results) e;
      }

  module _ {R : Type 0} (h : Shape R) (law : Lawful h) (n : ℕ) (xs : List R) (means : Means h n table xs)
      (fits : length table ≤ c.state.op.0) (room : d.answer.state.op.0 ≤ n) (settled : Settled m'.book) where
    before : Means h n b.table xs
    unfolding model_of book_of
    before = means

    before-fits : length b.table ≤ length b.log
    unfolding model_of book_of
    before-fits = omega (arith, fits, cells-length 32 entry_of c.state.op.0 c.runs.log)

    after-fits : length log ≤ n
    after-fits = omega (arith, room, cells-length 32 entry_of d.answer.state.op.0 d.runs.log)

    abbrev rows : List R
    rows = followed h (change_of c d) xs log (outcomes d.answer.state.commit.0 d.runs.results)

    by-growth : Grew b (installed_of d.answer) m'.book → Means h n m'.book.table rows
    by-growth (more es j p q) =
        subst (λ (a : Book). Means h n a.table rows) (sym q)
        (follow-append h law n (change_of c d) b es j xs log _ p (reads _ q) before before-fits after-fits)
    by-growth (anew new j p q) =
        follow-install h law n (change_of c d) m'.book xs log _ p log_is results-are settled means.long after-fits

    pub follow-shown : Means h n m'.book.table
        (followed h (change_of c d) xs (entries d.answer.state.op.0 d.runs.log) (outcomes d.answer.state.commit.0 d.runs.results))
    follow-shown = by-growth did.grew
