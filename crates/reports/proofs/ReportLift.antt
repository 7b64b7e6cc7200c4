-- Rows of reports, read as the model's lists of DoViewChanges and RecoveryResponses: what is counted, chosen, greatest and latest is the same.
--     placed-length, placed-get, placed-set, placed-other    the places, one of them, one set, and what the others don't depend on
--     filled_is, greatest-is, chosen_is, chosen-some, latest-is    with any reading that keeps a row's numbers
--     reports-filled, reports-greatest, reports-chosen; answers-filled, answers-latest    with a run for each log
--     stored-filled, stored-greatest, stored-chosen; stored-answers, stored-latest        where every log is stored
--     with-new, with-answer, chosen-reads    the new one in, whose log lies in `fresh`; the log that the judge lends
-- Assumes nothing.
use mathlib.Core.Path.{◌≡◌, refl, ap, sym, ◌∙◌}
use mathlib.Core.Bool.{Bool, true, false, not}
use mathlib.Core.List.{List, [], ◌∷◌}
use mathlib.Core.Option.{Option, none, some}
use Prim.Native.Nat.{ℕ, zero, suc, ◌+◌, ◌≤◌, ◌<◌, max}
use native.Mathlib.Numerals.{add-one}
use native.Mathlib.Omega.{arith}
use lib.Dec.{ltb, eqb}
use lib.ListN.{length, get_or, set, take, length-take, length-drop}
use lib.Seq.{get_or-take}
use borrow.Author.Tests.{ltb-true, ltb-false, lt-ltb, le-ltb, eq-eqb, ne_eqb, not-true, not-false}
use Rattle.numbers.specs.Words.{when◌then◌else◌}
use Rattle.numbers.proofs.WordLaws.{if-true, if-false, split, split₂, and-true, and-false}
use Rattle.numbers.proofs.CellLaws.{cells-length, cells-taken}
use Rattle.entries.specs.Entries.{entry_of, encode_entry, entries, EntryFits}
use Rattle.entries.proofs.EntryLaws.{entry-codec}
use Rattle.config.specs.declared.Setup.{Setup}
use Rattle.state.specs.Statuses.{no_report}
use Rattle.state.specs.Lengths.{stored_place}
use Rattle.state.specs.declared.Report.{Report}
use Rattle.reports.specs.Rows.{count_one, greater_commit, later_view, better_of, filled_in, greatest_in, latest_view_in, chosen_from}
use Rattle.reports.specs.Judge.{log_from, chosen_log, Lies}
use Rattle.reports.specs.declared.Best.{Best}
use Rattle.reports.proofs.RowLaws.{chosen-there}
use Rattle.reports.proofs.WholeLaws.{stored_run, run_of, own-run, other-run}
use Rattle.model.specs.State as M
use Rattle.model.specs.ViewChange.{filled, better, chosen, greatest_commit}
use Rattle.model.specs.Recovery.{latest_view}
use Rattle.layout.specs.Layout.{held_at, report_at, response_at, placed}
use Rattle.layout.proofs.RowLift.{none-and}

-- ---- places

module _ {A : Type 0} (f : ℕ → Report → Option A) where
  pub placed-length : (i : ℕ) (l : List Report) → length (placed f i l) ≡ length l
  unfolding placed
  placed-length i [] = refl
  placed-length i (d ∷ ds) = ap suc (placed-length (suc i) ds)

  get_from : (i : ℕ) (l : List Report) (k : ℕ) → k < length l → get_or (placed f i l) k none ≡ f (i + k) (get_or l k no_report)
  unfolding placed
  get_from i [] k h = absurd (omega arith)
  get_from i (d ∷ ds) zero h = let e : i + 0 ≡ i = omega arith in rw e
  get_from i (d ∷ ds) (suc k) h = let e : i + suc k ≡ suc i + k = omega arith in rw e (get_from (suc i) ds k (omega arith))

  -- the place of id k, of n replicas
  pub placed-get : (l : List Report) (n k : ℕ) → k < n → n ≤ length l → get_or (placed f 0 (take n l)) k none ≡ f k (get_or l k no_report)
  placed-get l n k h g =
      let e : 0 + k ≡ k = omega arith in
      get_from 0 (take n l) k (rw length-take (omega arith)) ∙ rw (e, get_or-take n l k no_report h)

  set-from : (i : ℕ) (l : List Report) (n k : ℕ) (d : Report) → k < n → n ≤ length l
      → placed f i (take n (set l k d)) ≡ set (placed f i (take n l)) k (f (i + k) d)
  unfolding placed
  set-from i [] n k d h g = absurd (omega arith)
  set-from i (x ∷ xs) zero k d h g = absurd (omega arith)
  set-from i (x ∷ xs) (suc n) zero d h g = let e : i + 0 ≡ i = omega arith in rw e
  set-from i (x ∷ xs) (suc n) (suc k) d h g =
      let e : i + suc k ≡ suc i + k = omega arith in
      rw e (ap (λ (ys : List (Option A)). f i x ∷ ys) (set-from (suc i) xs n k d (omega arith) (omega arith)))

  -- the report of id k set
  pub placed-set : (l : List Report) (n k : ℕ) (d : Report) → k < n → n ≤ length l
      → placed f 0 (take n (set l k d)) ≡ set (placed f 0 (take n l)) k (f k d)
  placed-set l n k d h g = let e : 0 + k ≡ k = omega arith in set-from 0 l n k d h g ∙ rw e

-- readings that agree from id i on
same_from : {A : Type 0} (f f' : ℕ → Report → Option A) (i : ℕ) (l : List Report) → ((j : ℕ) (d : Report) → i ≤ j → f j d ≡ f' j d)
    → placed f i l ≡ placed f' i l
unfolding placed
same_from f f' i [] h = refl
same_from f f' i (d ∷ ds) h = rw (h i d (omega arith), same_from f f' (suc i) ds (λ j e q. h j e (omega arith)))

-- readings that differ at one id only, with that one set
other_from : {A : Type 0} (f f' : ℕ → Report → Option A) (i : ℕ) (l : List Report) (k : ℕ) (x : Option A)
    → ((j : ℕ) (d : Report) → (j ≡ i + k → ⊥) → f j d ≡ f' j d) → set (placed f i l) k x ≡ set (placed f' i l) k x
unfolding placed
other_from f f' i [] k x h = refl
other_from f f' i (d ∷ ds) zero x h = rw (same_from f f' (suc i) ds (λ j e q. h j e (λ z. omega (arith, q, z))))
other_from f f' i (d ∷ ds) (suc k) x h =
    rw (h i d (λ e. omega (arith, e)), other_from f f' (suc i) ds k x (λ j e q. h j e (λ z. q (omega (arith, z)))))

pub placed-other : {A : Type 0} (f f' : ℕ → Report → Option A) (k : ℕ) (l : List Report) (x : Option A)
    → ((j : ℕ) (d : Report) → (j ≡ k → ⊥) → f j d ≡ f' j d) → set (placed f 0 l) k x ≡ set (placed f' 0 l) k x
placed-other f f' k l x h = other_from f f' 0 l k x (λ j d q. h j d (λ e. q (omega (arith, e))))

-- ---- a reading g of the rows that are there

abbrev pub if_there : {A : Type 0} → (ℕ → Report → A) → ℕ → Report → Option A
if_there g i d = when d.there then some (g i d) else none

filled-turn : {A : Type 0} (b : Bool) (x : A) (xs : List (Option A)) (k : ℕ) → filled xs ≡ k
    → filled ((when b then some x else none) ∷ xs) ≡ (when b then k + 1 else k)
unfolding filled when◌then◌else◌
filled-turn true x xs k e = rw (e, add-one)
filled-turn false x xs k e = e

pub filled_is : {A : Type 0} (g : ℕ → Report → A) (i : ℕ) (l : List Report) → filled (placed (if_there g) i l) ≡ filled_in l
unfolding filled placed filled_in count_one
filled_is g i [] = refl
filled_is g i (d ∷ ds) = filled-turn d.there (g i d) (placed (if_there g) (suc i) ds) (filled_in ds) (filled_is g (suc i) ds)

-- the greater of two, by a test
greater-max : (c k : ℕ) → max c k ≡ (when ltb k c then c else k)
greater-max c k =
    split (λ (z : ℕ). max c k ≡ z) (ltb k c) c k (λ e. omega (arith, ltb-true k c e)) (λ e. omega (arith, ltb-false k c e))

-- ---- reports

module _ (g : ℕ → Report → M.Reported) (view : (i : ℕ) (d : Report) → (g i d).last_normal ≡ d.view.0)
    (long : (i : ℕ) (d : Report) → length (g i d).held.log ≡ d.op.0)
    (commit : (i : ℕ) (d : Report) → (g i d).held.commit ≡ d.commit.0) where
  greatest-turn : (b : Bool) (x : M.Reported) (xs : List (Option M.Reported)) (c k : ℕ) → x.held.commit ≡ c → greatest_commit xs ≡ k
      → greatest_commit ((when b then some x else none) ∷ xs) ≡ (when not b then k else when ltb k c then c else k)
  unfolding greatest_commit when◌then◌else◌
  greatest-turn true x xs c k p e = rw (p, e) (greater-max c k)
  greatest-turn false x xs c k p e = e

  pub greatest-is : (i : ℕ) (l : List Report) → greatest_commit (placed (if_there g) i l) ≡ greatest_in l
  unfolding greatest_commit placed greatest_in greater_commit
  greatest-is i [] = refl
  greatest-is i (d ∷ ds) =
      greatest-turn d.there (g i d) (placed (if_there g) (suc i) ds) d.commit.0 (greatest_in ds) (commit i d) (greatest-is (suc i) ds)

  -- the report that a choice names
  abbrev pub best_of : Best → Option M.Reported
  best_of b = if_there g b.id b.report

  -- the model's test of two reports, by the numbers of their rows
  module _ (i j : ℕ) (d e : Report) where
    abbrev a : M.Reported
    a = g i d

    abbrev r : M.Reported
    r = g j e

    later : e.view.0 < d.view.0 → better (g i d) (some (g j e)) ≡ g i d
    unfolding better
    later h = if-true _ _ _ (lt-ltb r.last_normal a.last_normal (omega (arith, view i d, view j e)))

    earlier : d.view.0 < e.view.0 → better (g i d) (some (g j e)) ≡ g j e
    unfolding better
    earlier h =
        if-false _ _ _ (le-ltb r.last_normal a.last_normal (omega (arith, view i d, view j e)))
        ∙ if-false _ _ _ (none-and _ _ (ne_eqb r.last_normal a.last_normal (λ q. omega (arith, q, view i d, view j e))))

    longer : e.view.0 ≡ d.view.0 → e.op.0 < d.op.0 → better (g i d) (some (g j e)) ≡ g i d
    unfolding better
    longer q h =
        if-false _ _ _ (le-ltb r.last_normal a.last_normal (omega (arith, view i d, view j e)))
        ∙ if-true _ _ _
        (and-true _ _ (eq-eqb r.last_normal a.last_normal (view j e ∙ q ∙ sym (view i d)))
        (lt-ltb (length r.held.log) (length a.held.log) (omega (arith, long i d, long j e))))

    no_longer : e.view.0 ≡ d.view.0 → d.op.0 ≤ e.op.0 → better (g i d) (some (g j e)) ≡ g j e
    unfolding better
    no_longer q h =
        if-false _ _ _ (le-ltb r.last_normal a.last_normal (omega (arith, view i d, view j e)))
        ∙ if-false _ _ _ (and-false _ _ (le-ltb (length r.held.log) (length a.held.log) (omega (arith, long i d, long j e))))

  module _ (d : Report) (i : ℕ) (b : Best) (xs : List (Option M.Reported)) (best : chosen xs ≡ best_of b) where
    abbrev Goal : Best → Type 0
    Goal x = chosen (if_there g i d ∷ xs) ≡ best_of x

    passed_over : d.there ≡ false → Goal b
    unfolding chosen
    passed_over e = ap (λ (o : Option M.Reported). chosen (o ∷ xs)) (if-false _ _ _ e) ∙ best

    -- against what was chosen of the others
    against : d.there ≡ true → (o : Option M.Reported) → best_of b ≡ o → chosen (if_there g i d ∷ xs) ≡ some (better (g i d) o)
    unfolding chosen
    against e o p =
        ap (λ (z : Option M.Reported). chosen (z ∷ xs)) (if-true _ _ _ e)
        ∙ ap (λ (z : Option M.Reported). some (better (g i d) z)) (best ∙ p)

    first : d.there ≡ true → b.report.there ≡ false → Goal (record { id = i; report = d })
    unfolding better
    first e f = against e none (if-false _ _ _ f) ∙ sym (if-true _ _ _ e)

    module _ (here : d.there ≡ true) (there : b.report.there ≡ true) where
      two : (z : M.Reported) → better (g i d) (some (g b.id b.report)) ≡ z → chosen (if_there g i d ∷ xs) ≡ some z
      two z q = against here (some (g b.id b.report)) (if-true _ _ _ there) ∙ ap some q

      takes : better (g i d) (some (g b.id b.report)) ≡ g i d → Goal (record { id = i; report = d })
      takes q = two (g i d) q ∙ sym (if-true _ _ _ here)

      leaves : better (g i d) (some (g b.id b.report)) ≡ g b.id b.report → Goal b
      leaves q = two (g b.id b.report) q ∙ sym (if-true _ _ _ there)

    chosen-turn : Goal (better_of d i b)
    unfolding better_of
    chosen-turn =
        split Goal _ _ _ (λ e. passed_over (not-true _ e)) λ e.
        let here = not-false d.there e in
        split Goal _ _ _ (λ f. first here (not-true _ f)) λ f.
        let there = not-false b.report.there f in
        split Goal _ _ _ (λ h. takes here there (later i b.id d b.report (ltb-true _ _ h))) λ h.
        split Goal _ _ _ (λ k. leaves here there (earlier i b.id d b.report (ltb-true _ _ k))) λ k.
        let q : b.report.view.0 ≡ d.view.0 =
        omega (arith, ltb-false b.report.view.0 d.view.0 h, ltb-false d.view.0 b.report.view.0 k) in
        split Goal _ _ _ (λ o. takes here there (longer i b.id d b.report q (ltb-true _ _ o))) λ o.
        leaves here there (no_longer i b.id d b.report q (ltb-false _ _ o))

  pub chosen_is : (i : ℕ) (l : List Report) → chosen (placed (if_there g) i l) ≡ best_of (chosen_from i l)
  unfolding chosen placed chosen_from when◌then◌else◌
  chosen_is i [] = refl
  chosen_is i (d ∷ ds) = chosen-turn d i (chosen_from (suc i) ds) (placed (if_there g) (suc i) ds) (chosen_is (suc i) ds)

  -- of a quorum there is one
  pub chosen-some : (i : ℕ) (l : List Report) → 0 < filled_in l
      → chosen (placed (if_there g) i l) ≡ some (g (chosen_from i l).id (chosen_from i l).report)
  chosen-some i l h = chosen_is i l ∙ if-true _ _ _ (chosen-there i l h)

-- ---- responses

module _ (g : ℕ → Report → M.Response) (view : (i : ℕ) (d : Report) → (g i d).view ≡ d.view.0) where
  latest-turn : (b : Bool) (x : M.Response) (xs : List (Option M.Response)) (v k : ℕ) → x.view ≡ v → latest_view xs ≡ k
      → latest_view ((when b then some x else none) ∷ xs) ≡ (when not b then k else when ltb k v then v else k)
  unfolding latest_view when◌then◌else◌
  latest-turn true x xs v k p e = rw (p, e) (greater-max v k)
  latest-turn false x xs v k p e = e

  pub latest-is : (i : ℕ) (l : List Report) → latest_view (placed (if_there g) i l) ≡ latest_view_in l
  unfolding latest_view placed latest_view_in later_view
  latest-is i [] = refl
  latest-is i (d ∷ ds) =
      latest-turn d.there (g i d) (placed (if_there g) (suc i) ds) d.view.0 (latest_view_in ds) (view i d) (latest-is (suc i) ds)

-- ---- logs, each read from the front of a run

module _ (run : ℕ → List ℕ) where
  abbrev pub held_in : ℕ → Report → M.Held
  held_in i d = record { commit = d.commit.0; log = entries d.op.0 (run i) }

  abbrev pub report_in : ℕ → Report → M.Reported
  report_in i d = record { last_normal = d.view.0; held = held_in i d }

  abbrev pub response_in : ℕ → Report → M.Response
  response_in i d = record { view = d.view.0; held = when d.full then some (held_in i d) else none }

  long-in : (i : ℕ) (d : Report) → length (entries d.op.0 (run i)) ≡ d.op.0
  long-in i d = cells-length 32 entry_of d.op.0 (run i)

  pub reports-filled : (l : List Report) → filled (placed (if_there report_in) 0 l) ≡ filled_in l
  reports-filled l = filled_is report_in 0 l

  pub reports-greatest : (l : List Report) → greatest_commit (placed (if_there report_in) 0 l) ≡ greatest_in l
  reports-greatest l = greatest-is report_in (λ i d. refl) long-in (λ i d. refl) 0 l

  pub reports-chosen : (l : List Report) → 0 < filled_in l
      → chosen (placed (if_there report_in) 0 l) ≡ some (report_in (chosen_from 0 l).id (chosen_from 0 l).report)
  reports-chosen l h = chosen-some report_in (λ i d. refl) long-in (λ i d. refl) 0 l h

  pub answers-filled : (l : List Report) → filled (placed (if_there response_in) 0 l) ≡ filled_in l
  answers-filled l = filled_is response_in 0 l

  pub answers-latest : (l : List Report) → latest_view (placed (if_there response_in) 0 l) ≡ latest_view_in l
  answers-latest l = latest-is response_in (λ i d. refl) 0 l

-- every log is stored
module _ (u : Setup) (stored : List ℕ) where
  abbrev here : ℕ → List ℕ
  here i = stored_run u stored i

  pub stored-filled : (l : List Report) → filled (placed (report_at u stored) 0 l) ≡ filled_in l
  unfolding report_at held_at
  stored-filled l = reports-filled here l

  pub stored-greatest : (l : List Report) → greatest_commit (placed (report_at u stored) 0 l) ≡ greatest_in l
  unfolding report_at held_at
  stored-greatest l = reports-greatest here l

  pub stored-chosen : (l : List Report) → 0 < filled_in l
      → chosen (placed (report_at u stored) 0 l) ≡ some (report_in (stored_run u stored) (chosen_from 0 l).id (chosen_from 0 l).report)
  unfolding report_at held_at
  stored-chosen l h = reports-chosen here l h

  pub stored-answers : (l : List Report) → filled (placed (response_at u stored) 0 l) ≡ filled_in l
  unfolding response_at held_at
  stored-answers l = answers-filled here l

  pub stored-latest : (l : List Report) → latest_view (placed (response_at u stored) 0 l) ≡ latest_view_in l
  unfolding response_at held_at
  stored-latest l = answers-latest here l

  -- all but the new one's, that of replica id
  module _ (id : ℕ) (fresh : List ℕ) where
    abbrev run : ℕ → List ℕ
    run i = run_of u stored id fresh i

    pub chosen-reads : (b : Best) → Lies b id u.room stored fresh
        → entries b.report.op.0 (chosen_log b id u.room stored fresh) ≡ entries b.report.op.0 (run_of u stored id fresh b.id)
    unfolding chosen_log log_from
    chosen-reads b h =
        split₂ (λ (x y : List ℕ). entries k x ≡ entries k y) (eqb b.id id) (eqb b.id id) _ _ _ _ refl
        (λ e. cells-taken 32 entry_of encode_entry EntryFits entry-codec k fresh (h.new e))
        (λ e. cells-taken 32 entry_of encode_entry EntryFits entry-codec k (here b.id) (omega (arith, h.old, length-drop at stored)))
      where
        k : ℕ
        k = b.report.op.0

        at : ℕ
        at = stored_place u.room b.id

    module _ (l : List Report) (n : ℕ) (d : Report) (below : id < n) (few : n ≤ length l) (there : d.there ≡ true) where
      -- do_view_change_from.insert
      pub with-new :
          set (placed (report_at u stored) 0 (take n l)) id (some (report_in (λ _. fresh) id d))
          ≡ placed (if_there (report_in (run_of u stored id fresh))) 0 (take n (set l id d))
      unfolding report_at held_at
      with-new =
          sym
          (placed-set (if_there (report_in run)) l n id d below few
          ∙ placed-other (if_there (report_in run)) (report_at u stored) id (take n l) _ (λ j e q. rw (other-run u stored id fresh j q))
          ∙ ap (set (placed (report_at u stored) 0 (take n l)) id) (if-true _ _ _ there ∙ rw (own-run u stored id fresh)))

      -- recovery_responses.insert
      pub with-answer :
          set (placed (response_at u stored) 0 (take n l)) id (some (response_in (λ _. fresh) id d))
          ≡ placed (if_there (response_in (run_of u stored id fresh))) 0 (take n (set l id d))
      unfolding response_at held_at
      with-answer =
          sym
          (placed-set (if_there (response_in run)) l n id d below few
          ∙ placed-other (if_there (response_in run)) (response_at u stored) id (take n l) _ (λ j e q. rw (other-run u stored id fresh j q))
          ∙ ap (set (placed (response_at u stored) 0 (take n l)) id) (if-true _ _ _ there ∙ rw (own-run u stored id fresh)))
