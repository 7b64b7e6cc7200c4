-- recovery_responses.insert, lifted to the model, before the new response's log is kept and after.
--     response-there, response-is                what is held of a response
--     noted-filled, noted-latest, noted-place    how many there are, the latest view among them, one of them
--     noted-reads                                the state with its log kept
-- Assumes nothing.
use Rattle.std.specs.Prelude.{Option as RustOption, Some, None}
use Prim.Native.Nat.{ℕ, ◌*◌, ◌≤◌, ◌<◌}
use mathlib.Core.Path.{◌≡◌, refl, sym, ap, ◌∙◌}
use mathlib.Core.Bool.{true}
use mathlib.Core.List.{List}
use mathlib.Core.Option.{Option, none, some}
use lib.ListN.{length, get_or, set, take, length-set}
use Rattle.numbers.specs.Words.{when◌then◌else◌}
use Rattle.numbers.specs.declared.View.{View}
use Rattle.numbers.proofs.WordLaws.{if-true, split₂}
use Rattle.entries.specs.Entries.{entries}
use Rattle.entries.specs.declared.Entry.{Entry}
use Rattle.config.specs.declared.Setup.{Setup}
use Rattle.frames.specs.declared.Progress.{Progress}
use Rattle.state.specs.State.{with_reports}
use Rattle.state.specs.Statuses.{is_recovering, no_report}
use Rattle.state.specs.Lengths.{stored_place}
use Rattle.state.specs.declared.Replica.{Replica}
use Rattle.state.specs.declared.Report.{Report}
use Rattle.reports.specs.Rows.{with_report, filled_in, latest_view_in}
use Rattle.reports.specs.Store.{kept_log}
use Rattle.reports.proofs.PlaceLaws.{other_entries, own-place}
use Rattle.reports.proofs.WholeLaws.{run_of}
use Rattle.recovery.specs.Recovery.{response_of}
use Rattle.model.specs.State as M
use Rattle.model.specs.ViewChange.{filled}
use Rattle.model.specs.Recovery.{latest_view, noted}
use Rattle.layout.specs.Layout.{LentRuns, held_at, response_at, placed, store_of, model_of}
use Rattle.model.specs.Steps.{held_in}
use Rattle.reports.proofs.ReportLift.{placed-get, if_there, response_in, with-answer, answers-filled, answers-latest}
use Rattle.reports.proofs.StoredLift.{kept-places}

-- what is held of a response

pub response-there : (v : View) (state : RustOption Progress) → (response_of v state).there ≡ true
unfolding response_of
response-there v None = refl
response-there v (Some p) = refl

pub response-is : (v : View) (state : RustOption Progress) (r : ℕ) (part : List ℕ)
    → record { view = v.0; held = held_in state (entries (response_of v state).op.0 part) } ≡ response_in (λ _. part) r (response_of v state)
unfolding response_of held_in when◌then◌else◌
response-is v None r part = refl
response-is v (Some p) r part = refl

-- ---- the rows

-- the rows with a new response, whose log was kept; one without a log is of 0 entries
module _ (u : Setup) (r : ℕ) (d : Report) (fresh stored : List ℕ) (l : List Report) (below : r < u.n) (few : u.n ≤ length l)
    (there : d.there ≡ true) (fits : d.op.0 ≤ u.room) (long : 32 * d.op.0 ≤ length fresh)
    (held : stored_place u.room u.n ≤ length stored)
    (rows : (i : ℕ) → i < u.n → (get_or l i no_report).there ≡ true → (get_or l i no_report).op.0 ≤ u.room) where
  abbrev after : List ℕ
  after = kept_log u.room r d.op fresh stored

  other-answer : (j : ℕ) → j < u.n → (j ≡ r → ⊥) → response_at u after j (get_or l j no_report) ≡ response_at u stored j (get_or l j no_report)
  unfolding response_at held_at
  other-answer j h q =
      split₂ (λ (a b : Option M.Response). a ≡ b) _ _ _ _ _ _ refl
      (λ t. rw (other_entries u.room u.n r d.op fresh stored below fits long held j (get_or l j no_report).op.0 h (rows j h t) q))
      (λ _. refl)

  own-answer : response_at u after r d ≡ some (response_in (λ _. fresh) r d)
  unfolding response_at held_at
  own-answer = if-true _ _ _ there ∙ rw (own-place u.room u.n r d.op fresh stored below fits long held)

  kept-answers : placed (response_at u (kept_log u.room r d.op fresh stored)) 0 (take u.n (set l r d))
      ≡ set (placed (response_at u stored) 0 (take u.n l)) r (some (response_in (λ _. fresh) r d))
  kept-answers =
      kept-places (response_at u after) (response_at u stored) l u.n r d (some (response_in (λ _. fresh) r d)) below few other-answer own-answer

-- ---- in Recovering

module _ (t : Replica) (x : LentRuns) (table : List M.ClientEntry) (applied : List Entry) (recovering : is_recovering t.status ≡ true) (r : ℕ) (d : Report)
    (fresh : List ℕ) (below : r < t.setup.n) (few : t.setup.n ≤ length t.reports.rows) (there : d.there ≡ true) where
  abbrev m : M.State
  m = model_of t x table applied

  abbrev new : M.Response
  new = response_in (λ _. fresh) r d

  abbrev rows : List Report
  rows = take t.setup.n (set t.reports.rows r d)

  abbrev run : ℕ → List ℕ
  run i = run_of t.setup x.stored r fresh i

  responses-are : m.store.responses ≡ placed (response_at t.setup x.stored) 0 (take t.setup.n t.reports.rows)
  unfolding model_of store_of
  responses-are = if-true _ _ _ recovering

  noted-are : (noted m r new).store.responses ≡ placed (if_there (response_in run)) 0 rows
  unfolding noted M.set_store
  noted-are =
      ap (λ (y : List (Option M.Response)). set y r (some new)) responses-are
      ∙ with-answer t.setup x.stored r fresh t.reports.rows t.setup.n d below few there

  pub noted-filled : filled (noted (model_of t x table applied) r (response_in (λ _. fresh) r d)).store.responses
      ≡ filled_in (take t.setup.n (set t.reports.rows r d))
  noted-filled = ap filled noted-are ∙ answers-filled run rows

  pub noted-latest : latest_view (noted (model_of t x table applied) r (response_in (λ _. fresh) r d)).store.responses
      ≡ latest_view_in (take t.setup.n (set t.reports.rows r d))
  noted-latest = ap latest_view noted-are ∙ answers-latest run rows

  pub noted-place : (i : ℕ) → i < t.setup.n
      → get_or (noted (model_of t x table applied) r (response_in (λ _. fresh) r d)).store.responses i none
      ≡ if_there (response_in (run_of t.setup x.stored r fresh)) i (get_or (set t.reports.rows r d) i no_report)
  noted-place i h =
      ap (λ (y : List (Option M.Response)). get_or y i none) noted-are
      ∙ placed-get (if_there (response_in run)) (set t.reports.rows r d) t.setup.n i h (rw length-set few)

  module _ (fits : d.op.0 ≤ t.setup.room) (long : 32 * d.op.0 ≤ length fresh)
      (held : stored_place t.setup.room t.setup.n ≤ length x.stored)
      (old : (i : ℕ) → i < t.setup.n → (get_or t.reports.rows i no_report).there ≡ true
      → (get_or t.reports.rows i no_report).op.0 ≤ t.setup.room) where
    abbrev now : List ℕ
    now = kept_log t.setup.room r d.op fresh x.stored

    noted-store : store_of (with_reports t (with_report t.reports r d)) now ≡ (noted m r new).store
    unfolding store_of model_of noted M.set_store
    noted-store =
        let e : placed (response_at t.setup now) 0 rows ≡ set m.store.responses r (some new) =
        kept-answers t.setup r d fresh x.stored t.reports.rows below few there fits long held old
        ∙ ap (λ (y : List (Option M.Response)). set y r (some new)) (sym responses-are) in
        let q = if-true _ _ _ recovering ∙ e in
        let none_yet = if-true _ _ _ recovering ∙ sym (if-true _ _ _ recovering) in
        λ i. record { reports = none_yet i; responses = q i; nonce = t.nonce }

    pub noted-reads :
        model_of (with_reports t (with_report t.reports r d))
        (record {
          log = x.log;
          results = x.results;
          totals = x.totals;
          acks = x.acks;
          stored = kept_log t.setup.room r d.op fresh x.stored;
        }) table applied
        ≡ noted (model_of t x table applied) r (response_in (λ _. fresh) r d)
    unfolding model_of noted M.set_store
    noted-reads = λ i. M.set_store m (noted-store i)
