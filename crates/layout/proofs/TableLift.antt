-- Rows that stand for the model's table do what the model does to it: append, commit, install, and all that a call changes.
--     put-entry, append-lift                 append_to_log, for each entry
--     reply-lift, commit-lift                commit_op, for each entry
--     rebuild-lift, blank-means              the table of a log, and the unused rows that it begins with
--     Reads, Settled, answers-coded          what a call changed; a book whose table is that of its log
--     follow-append, follow-install          the rows brought up to what a call did to the log
-- Assumes nothing.
use Prim.Native.Nat.{ℕ, zero, suc, ◌+◌, ◌-◌, ◌≤◌, ◌<◌}
use native.Mathlib.Omega.{arith}
use mathlib.Core.Path.{◌≡◌, refl, sym, ap, ◌∙◌}
use mathlib.Core.Bool.{Bool, true, false}
use mathlib.Core.List.{List, [], ◌∷◌, ◌++◌}
use mathlib.Core.Option.{Option, none, some}
use lib.Dec.{eqb}
use lib.ListN.{length, take, drop, replicate, length-replicate, length-append}
use lib.Seq.{drop_at, drop-append_seam, take_all}
use borrow.Author.Tests.{eqb-true}
use Rattle.numbers.specs.Words.{◌and◌}
use Rattle.numbers.proofs.WordLaws.{split₂, if-true, if-false, and_left, and_right}
use Rattle.entries.specs.declared.Entry.{Entry}
use Rattle.fees.specs.declared.Outcome.{Outcome}
use Rattle.client_table.specs.declared.Change.{Change}
use Rattle.client_table.specs.Rows.{spot_of, is_there, put_row, appended, is_latest, replied, rows_committed, rebuilt, followed}
use Rattle.client_table.specs.Shape.{Shape, row_at}
use Rattle.client_table.specs.Lawful.{HoldsEntry, Lawful}
use Rattle.client_table.proofs.AlikeLaws.{Coded}
use Rattle.model.specs.State.{ClientEntry, Book}
use Rattle.model.specs.Book.{outcome, totals_after, results_of, find, put, entry_row, append, append_all, keep, table_of}
use Rattle.model.specs.Book.{commit_one, commit_all, due_entries, commit_up_to}
use Rattle.model.specs.Book as M
use Rattle.layout.specs.Layout.{meant, table_in}
use Rattle.model.proofs.BookLaws.{outcome-code, commit_all-log, commit_all-results, append_all-log, append_all-rest}
use Rattle.model.proofs.TableLaws.{put-length}
use Rattle.layout.proofs.RowLift.{Means, unused, find-there, find-row, replace-lift, put-lift}

-- What a call changed, b being the book before it and a the book after: log and os are read from what it left, its log and its results.
pub record Reads (k : Change) (b a : Book) (log : List Entry) (os : List Outcome) : Type 0 where
  pub op : k.op.0 ≡ length b.log
  pub commit : k.commit.0 ≡ b.commit
  pub results : length b.results ≡ b.commit
  pub log_is : log ≡ a.log
  pub results-are : os ≡ a.results

-- a book whose table is that of its log, its results and its commit number, each result being one that the fee rules can give
pub record Settled (b : Book) : Type 0 where
  pub table : b.table ≡ table_of b.log b.results b.commit
  pub count : length b.results ≡ b.commit
  pub coded : Coded b.results

-- what the fee rules give
pub answers-coded : (ts : List ℕ) (es : List Entry) → Coded (results_of ts es)
unfolding results_of
answers-coded ts [] = tt
answers-coded ts (e ∷ es) = (outcome-code ts e, answers-coded (totals_after ts e) es)

until-log : (b : Book) (j : ℕ) → (commit_up_to b j).log ≡ b.log
unfolding commit_up_to
until-log b j = commit_all-log b (due_entries b j)

module _ {R : Type 0} (h : Shape R) where
  meant_is : (x : R) (e : Entry) (k : Option Outcome) → HoldsEntry h x e k → meant h x ≡ entry_row e k
  unfolding meant entry_row
  meant_is x e k p = λ i. record { client = p.client i; request = p.request i; kept = p.kept i }

  latest-there : (xs : List R) (e : Entry) → is_latest h xs e ≡ true
      → (is_there h xs e.client ≡ true) × (h.request (row_at h xs (spot_of h xs e.client)) ≡ e.request)
  unfolding is_latest
  latest-there xs e l = (and_left _ _ l, eqb-true _ _ (and_right _ _ l))

  -- ---- what the rows have of an entry's client

  module _ (law : Lawful h) (w : ℕ) (old : List R) (t : List ClientEntry) (m : Means h w t old) (e : Entry) where
    same : find (table_in h old) e.client ≡ find t e.client
    same = ap (λ (l : List ClientEntry). find l e.client) m.table

    seen : is_there h old e.client ≡ true → (find t e.client).request ≡ h.request (row_at h old (spot_of h old e.client))
    seen p = rw (← same) (find-row h old m.ordered law e.client p).0

    -- the test of commit_op
    latest-is : is_latest h old e ≡ ((find t e.client).there and eqb (find t e.client).request e.request)
    unfolding is_latest ◌and◌
    latest-is = go (is_there h old e.client) refl
      where
        there : (find t e.client).there ≡ is_there h old e.client
        there = rw (← same) (find-there h old m.ordered law e.client)

        go : (b : Bool) → is_there h old e.client ≡ b
            → (is_there h old e.client and eqb (h.request (row_at h old (spot_of h old e.client))) e.request)
            ≡ ((find t e.client).there and eqb (find t e.client).request e.request)
        go true p = cc (there, seen p)
        go false p = cc (there, p)

  module _ (law : Lawful h) (n : ℕ) where
    -- ---- append

    pub put-entry : (t : List ClientEntry) (xs : List R) (x : R) (e : Entry) (k : Option Outcome) → HoldsEntry h x e k → Means h n t xs → length t < n
        → Means h n (put t (entry_row e k)) (put_row h xs x)
    put-entry t xs x e k p m l = rw (← meant_is x e k p) (put-lift h law n t xs m x p.used (λ _. l))

    pub append-lift : (b : Book) (xs : List R) (es : List Entry) → Means h n b.table xs → length b.table + length es ≤ n
        → Means h n (append_all b es).table (appended h xs es)
    unfolding append_all append appended
    append-lift b xs [] m l = m
    append-lift b xs (e ∷ es) m l =
        append-lift (append b e) (put_row h xs (h.fresh e)) es (put-entry b.table xs (h.fresh e) e none (law.fresh e) m (omega arith))
        (omega (arith, put-length b.table (entry_row e none)))

    -- ---- commit

    pub reply-lift : (t : List ClientEntry) (xs : List R) (e : Entry) (o : Outcome) → Means h n t xs → 1 ≤ o.code → o.code ≤ 6
        → Means h n (keep t e o) (replied h xs e o)
    unfolding keep replied
    reply-lift t xs e o m a b =
        let p : HoldsEntry h (h.answered e o) e (some o) = law.answered e o a b in
        split₂ (λ (ys : List R) (l : List ClientEntry). Means h n l ys) _ _ _ _ _ _ (latest-is law n xs t m e)
        (λ l.
        rw (← meant_is (h.answered e o) e (some o) p)
        (replace-lift h law n t xs m (h.answered e o) p.used e.client p.client (latest-there xs e l).0))
        (λ _. m)

    pub commit-lift : (b : Book) (xs : List R) (es : List Entry) → Means h n b.table xs
        → Means h n (commit_all b es).table (rows_committed h xs es (results_of b.totals es))
    unfolding commit_all commit_one rows_committed results_of
    commit-lift b xs [] m = m
    commit-lift b xs (e ∷ es) m =
        let k = outcome-code b.totals e in
        commit-lift (commit_one b e) _ es (reply-lift b.table xs e (outcome b.totals e) m k.0 k.1)

    -- ---- install

    pub rebuild-lift : (s : List ClientEntry) (new : List R) (es : List Entry) (os : List Outcome) → Coded os → Means h n s new → length s + length es ≤ n
        → Means h n (M.rebuilt s es os) (rebuilt h new es os)
    unfolding M.rebuilt rebuilt
    rebuild-lift s new [] os c m l = m
    rebuild-lift s new (e ∷ es) [] c m l =
        rebuild-lift (put s (entry_row e none)) (put_row h new (h.fresh e)) es [] c (put-entry s new (h.fresh e) e none (law.fresh e) m (omega arith)) (omega (arith, put-length s (entry_row e none)))
    rebuild-lift s new (e ∷ es) (o ∷ os) c m l =
        rebuild-lift (put s (entry_row e (some o))) (put_row h new (h.answered e o)) es os c.1 (put-entry s new (h.answered e o) e (some o) (law.answered e o c.0.0 c.0.1) m (omega arith))
        (omega (arith, put-length s (entry_row e (some o))))

    pub blank-means : Means h n [] (replicate n h.blank)
    blank-means =
        record {
          long = length-replicate n h.blank;
          table = blank-table n;
          ordered = record { rises = rw (blank-table n) tt; unused-last = λ i _. blank-row n i };
        }
      where
        blank-row : (k i : ℕ) → h.used (row_at h (replicate k h.blank) i) ≡ false
        blank-row zero i = law.blank
        blank-row (suc k) zero = law.blank
        blank-row (suc k) (suc i) = blank-row k i

        blank-table : (k : ℕ) → table_in h (replicate k h.blank) ≡ []
        blank-table k = unused h (replicate k h.blank) (blank-row k 0)

    -- ---- all that a call changes

    committed-front : (xs : List R) (ts : List ℕ) (j : ℕ) (es : List Entry)
        → rows_committed h xs es (results_of ts (take j es)) ≡ rows_committed h xs (take j es) (results_of ts (take j es))
    unfolding rows_committed results_of
    committed-front xs ts zero [] = refl
    committed-front xs ts zero (e ∷ es) = refl
    committed-front xs ts (suc j) [] = refl
    committed-front xs ts (suc j) (e ∷ es) = committed-front (replied h xs e (outcome ts e)) (totals_after ts e) j es

    -- a commit up to j, by the log and by all results as they are read after it
    settle-lift : (b : Book) (j c : ℕ) (xs : List R) (log : List Entry) (os : List Outcome) → Means h n b.table xs → c ≡ b.commit
        → length b.results ≡ b.commit → log ≡ (commit_up_to b j).log → os ≡ (commit_up_to b j).results
        → Means h n (commit_up_to b j).table (rows_committed h xs (drop c log) (drop c os))
    unfolding commit_up_to due_entries
    settle-lift b j c xs log os m p q v w =
        rw (p, v, w, commit_all-log b (due_entries b j), commit_all-results b (due_entries b j), drop_at b.results (results_of b.totals (due_entries b j)) b.commit q)
        (rw (committed-front xs b.totals (j - b.commit) (drop b.commit b.log)) (commit-lift b xs (due_entries b j) m))

    -- the log was appended to, and then rows_committed up to j
    pub follow-append : (k : Change) (b : Book) (es : List Entry) (j : ℕ) (xs : List R) (log : List Entry) (os : List Outcome)
        → k.installed ≡ false → Reads k b (commit_up_to (append_all b es) j) log os → Means h n b.table xs
        → length b.table ≤ length b.log → length log ≤ n → Means h n (commit_up_to (append_all b es) j).table (followed h k xs log os)
    unfolding followed
    follow-append k b es j xs log os more p m fits room =
        let w : log ≡ b.log ++ es = p.log_is ∙ until-log (append_all b es) j ∙ append_all-log b es in
        let l : length log ≡ length b.log + length es = rw w (length-append b.log es) in
        let d : drop k.op.0 log ≡ es = rw (p.op, w) (drop-append_seam b.log es) in
        let q = append_all-rest b es in
        rw (if-false k.installed (rebuilt h (replicate (length xs) h.blank) log os) _ more, d)
        (settle-lift (append_all b es) j k.commit.0 (appended h xs es) log os (append-lift b xs es m (omega arith))
        (p.commit ∙ sym q.commit) (cc (q.commit, q.results, p.results)) p.log_is p.results-are)

    -- the log was installed anew: nothing is taken of the rows but how many they are
    pub follow-install : (k : Change) (a : Book) (xs : List R) (log : List Entry) (os : List Outcome)
        → k.installed ≡ true → log ≡ a.log → os ≡ a.results → Settled a → length xs ≡ n → length log ≤ n
        → Means h n a.table (followed h k xs log os)
    unfolding followed table_of
    follow-install k a xs log os anew p q t long room =
        let w : a.table ≡ M.rebuilt [] log os =
        t.table ∙ ap (M.rebuilt [] a.log) (take_all a.commit a.results (omega (arith, t.count))) ∙ cc (p, q) in
        rw (w, if-true k.installed _ _ anew, long)
        (rebuild-lift [] (replicate n h.blank) log os (rw q t.coded) blank-means (omega arith))
