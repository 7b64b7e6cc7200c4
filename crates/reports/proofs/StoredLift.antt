-- Logs that are stored, a place for each replica id, read as the model's reports.
--     kept-places               the rows with a new one, by what is read at the others and at its own
--     kept-reports              the rows with a new report, whose log was kept
--     recorded-filled, recorded-greatest, recorded-chosen, recorded-reads    do_view_change_from.insert, before its log is kept and after
-- Assumes nothing.
use Prim.Native.Nat.{ℕ, zero, suc, ◌+◌, ◌*◌, ◌≤◌, ◌<◌}
use native.Mathlib.Omega.{arith}
use mathlib.Core.Path.{◌≡◌, refl, sym, ap, ◌∙◌, subst}
use mathlib.Core.Bool.{true, false}
use mathlib.Core.List.{List, [], ◌∷◌}
use mathlib.Core.Option.{Option, some}
use lib.ListN.{length, get_or, set, take, length-take}
use lib.Seq.{get_or-take}
use Rattle.numbers.proofs.WordLaws.{if-true, if-false, split₂}
use Rattle.entries.specs.declared.Entry.{Entry}
use Rattle.config.specs.declared.Setup.{Setup}
use Rattle.state.specs.State.{with_reports}
use Rattle.state.specs.Statuses.{is_recovering, no_report}
use Rattle.state.specs.Lengths.{stored_place}
use Rattle.state.specs.declared.Replica.{Replica}
use Rattle.state.specs.declared.Report.{Report}
use Rattle.reports.specs.Rows.{with_report, filled_in, greatest_in, chosen_from}
use Rattle.reports.specs.Store.{kept_log}
use Rattle.reports.proofs.PlaceLaws.{other_entries, own-place}
use Rattle.reports.proofs.WholeLaws.{run_of}
use Rattle.model.specs.State as M
use Rattle.model.specs.ViewChange.{filled, chosen, greatest_commit, report_noted}
use Rattle.layout.specs.Layout.{LentRuns, held_at, report_at, placed, store_of, model_of}
use Rattle.reports.proofs.ReportLift.{placed-set, if_there, report_in, with-new, reports-filled, reports-greatest, reports-chosen}
use lib.ListN.{drop}
use Rattle.numbers.specs.Numbers.{Bytes}
use Rattle.entries.specs.Entries.{entries_ok}

-- ---- rows

-- readings that agree on every row but one, with that one set
same_rows : {A : Type 0} (f f' : ℕ → Report → Option A) (i : ℕ) (l : List Report)
    → ((j : ℕ) → j < length l → f (i + j) (get_or l j no_report) ≡ f' (i + j) (get_or l j no_report)) → placed f i l ≡ placed f' i l
unfolding placed
same_rows f f' i [] h = refl
same_rows f f' i (d ∷ ds) h =
    let x : f i d ≡ f' i d = subst (λ (j : ℕ). f j d ≡ f' j d) (omega arith) (h 0 (omega arith)) in
    rw (x, same_rows f f' (suc i) ds (λ j l. let e : suc i + j ≡ i + suc j = omega arith in rw e (h (suc j) (omega arith))))

other-rows : {A : Type 0} (f f' : ℕ → Report → Option A) (i : ℕ) (l : List Report) (k : ℕ) (x : Option A)
    → ((j : ℕ) → j < length l → (j ≡ k → ⊥) → f (i + j) (get_or l j no_report) ≡ f' (i + j) (get_or l j no_report))
    → set (placed f i l) k x ≡ set (placed f' i l) k x
unfolding placed
other-rows f f' i [] k x h = refl
other-rows f f' i (d ∷ ds) zero x h =
    rw (same_rows f f' (suc i) ds
    (λ j l. let e : suc i + j ≡ i + suc j = omega arith in rw e (h (suc j) (omega arith) (λ z. omega (arith, z)))))
other-rows f f' i (d ∷ ds) (suc k) x h =
    let y : f i d ≡ f' i d = subst (λ (j : ℕ). f j d ≡ f' j d) (omega arith) (h 0 (omega arith) (λ q. omega (arith, q))) in
    rw (
      y,
      other-rows f f' (suc i) ds k x
          (λ j l q. let e : suc i + j ≡ i + suc j = omega arith in rw e (h (suc j) (omega arith) (λ z. q (omega (arith, z))))),
    )

-- f before and f' after the row of id r was set, which reads as x then
pub kept-places : {A : Type 0} (f' f : ℕ → Report → Option A) (l : List Report) (n r : ℕ) (d : Report) (x : Option A) → r < n → n ≤ length l
    → ((j : ℕ) → j < n → (j ≡ r → ⊥) → f' j (get_or l j no_report) ≡ f j (get_or l j no_report)) → f' r d ≡ x
    → placed f' 0 (take n (set l r d)) ≡ set (placed f 0 (take n l)) r x
kept-places f' f l n r d x below few others own =
    placed-set f' l n r d below few
    ∙ other-rows f' f 0 (take n l) r (f' r d)
    (λ j h q.
    let z : 0 + j ≡ j = omega arith in
    let m : j < n = omega (arith, length-take n l) in
    rw (z, get_or-take n l j no_report m) (others j m q))
    ∙ ap (set (placed f 0 (take n l)) r) own

module _ (u : Setup) (r : ℕ) (d : Report) (fresh stored : List ℕ) (l : List Report) (below : r < u.n) (few : u.n ≤ length l)
    (there : d.there ≡ true) (fits : d.op.0 ≤ u.room) (long : 32 * d.op.0 ≤ length fresh)
    (held : stored_place u.room u.n ≤ length stored)
    (rows : (i : ℕ) → i < u.n → (get_or l i no_report).there ≡ true → (get_or l i no_report).op.0 ≤ u.room) where
  abbrev after : List ℕ
  after = kept_log u.room r d.op fresh stored

  other-report : (j : ℕ) → j < u.n → (j ≡ r → ⊥) → report_at u after j (get_or l j no_report) ≡ report_at u stored j (get_or l j no_report)
  unfolding report_at held_at
  other-report j h q =
      split₂ (λ (a b : Option M.Reported). a ≡ b) _ _ _ _ _ _ refl
      (λ t. rw (other_entries u.room u.n r d.op fresh stored below fits long held j (get_or l j no_report).op.0 h (rows j h t) q))
      (λ _. refl)

  own-report : report_at u after r d ≡ some (report_in (λ _. fresh) r d)
  unfolding report_at held_at
  own-report = if-true _ _ _ there ∙ rw (own-place u.room u.n r d.op fresh stored below fits long held)

  pub kept-reports : placed (report_at u (kept_log u.room r d.op fresh stored)) 0 (take u.n (set l r d))
      ≡ set (placed (report_at u stored) 0 (take u.n l)) r (some (report_in (λ _. fresh) r d))
  kept-reports = kept-places (report_at u after) (report_at u stored) l u.n r d (some (report_in (λ _. fresh) r d)) below few other-report own-report

-- ---- do_view_change_from.insert, outside Recovering

module _ (t : Replica) (x : LentRuns) (table : List M.ClientEntry) (applied : List Entry) (looks : is_recovering t.status ≡ false) (r : ℕ) (d : Report)
    (fresh : List ℕ) (below : r < t.setup.n) (few : t.setup.n ≤ length t.reports.rows) (there : d.there ≡ true) where
  abbrev m : M.State
  m = model_of t x table applied

  abbrev new : M.Reported
  new = report_in (λ _. fresh) r d

  abbrev rows : List Report
  rows = take t.setup.n (set t.reports.rows r d)

  abbrev run : ℕ → List ℕ
  run i = run_of t.setup x.stored r fresh i

  reports-are : m.store.reports ≡ placed (report_at t.setup x.stored) 0 (take t.setup.n t.reports.rows)
  unfolding model_of store_of
  reports-are = if-false _ _ _ looks

  recorded-are : (report_noted m r new).store.reports ≡ placed (if_there (report_in run)) 0 rows
  unfolding report_noted M.set_store
  recorded-are =
      ap (λ (y : List (Option M.Reported)). set y r (some new)) reports-are
      ∙ with-new t.setup x.stored r fresh t.reports.rows t.setup.n d below few there

  pub recorded-filled : filled (report_noted (model_of t x table applied) r (report_in (λ _. fresh) r d)).store.reports
      ≡ filled_in (take t.setup.n (set t.reports.rows r d))
  recorded-filled = ap filled recorded-are ∙ reports-filled run rows

  pub recorded-greatest : greatest_commit (report_noted (model_of t x table applied) r (report_in (λ _. fresh) r d)).store.reports
      ≡ greatest_in (take t.setup.n (set t.reports.rows r d))
  recorded-greatest = ap greatest_commit recorded-are ∙ reports-greatest run rows

  -- of a quorum there is one
  pub recorded-chosen : 0 < filled_in (take t.setup.n (set t.reports.rows r d))
      → chosen (report_noted (model_of t x table applied) r (report_in (λ _. fresh) r d)).store.reports
      ≡ some (report_in (run_of t.setup x.stored r fresh) (chosen_from 0 (take t.setup.n (set t.reports.rows r d))).id
      (chosen_from 0 (take t.setup.n (set t.reports.rows r d))).report)
  recorded-chosen h = ap chosen recorded-are ∙ reports-chosen run rows h

  module _ (fits : d.op.0 ≤ t.setup.room) (long : 32 * d.op.0 ≤ length fresh)
      (held : stored_place t.setup.room t.setup.n ≤ length x.stored)
      (old : (i : ℕ) → i < t.setup.n → (get_or t.reports.rows i no_report).there ≡ true
      → (get_or t.reports.rows i no_report).op.0 ≤ t.setup.room) where
    abbrev now : List ℕ
    now = kept_log t.setup.room r d.op fresh x.stored

    recorded-store : store_of (with_reports t (with_report t.reports r d)) now ≡ (report_noted m r new).store
    unfolding store_of model_of report_noted M.set_store
    recorded-store =
        let e : placed (report_at t.setup now) 0 rows ≡ set m.store.reports r (some new) =
        kept-reports t.setup r d fresh x.stored t.reports.rows below few there fits long held old
        ∙ ap (λ (y : List (Option M.Reported)). set y r (some new)) (sym reports-are) in
        let q = if-false _ _ _ looks ∙ e in
        let none_yet = if-false _ _ _ looks ∙ sym (if-false _ _ _ looks) in
        λ i. record { reports = q i; responses = none_yet i; nonce = t.nonce }

    pub recorded-reads :
        model_of (with_reports t (with_report t.reports r d))
        (record {
          log = x.log;
          results = x.results;
          totals = x.totals;
          acks = x.acks;
          stored = kept_log t.setup.room r d.op fresh x.stored;
        }) table applied
        ≡ report_noted (model_of t x table applied) r (report_in (λ _. fresh) r d)
    unfolding model_of report_noted M.set_store
    recorded-reads = λ i. M.set_store m (recorded-store i)

-- every log that is stored for one of n replicas keeps the rules of the entries
pub record StoredOk (t : Replica) (stored : List ℕ) : Type 0 where
  pub logs : (i : ℕ) → i < t.setup.n → (get_or t.reports.rows i no_report).there ≡ true
      → entries_ok (get_or t.reports.rows i no_report).op.0 (drop (stored_place t.setup.room i) stored) ≡ true
  pub bytes : Bytes stored
  pub seven : length t.reports.rows ≡ 7
