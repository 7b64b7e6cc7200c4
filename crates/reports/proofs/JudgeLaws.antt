-- Laws of the judge.
--     place_is                                           what `place` computes
--     length-chosen                                      the length of a report's log
--     passes, shortens, alters, begins                   each way out of `weighed`
--     chosen-lies, primary-lies                          the reports that are weighed lie inside what is lent
--     waits, weighs; absent, silent, older, tells; too_few, behind, asks-primary    each way out of the judges
--     weighed-begins, begins-within, begin-lies          what a view begins with
--     response-begins, response-lies, response-within    what a recovery ends with
-- Assumes nothing.
use mathlib.Core.Path.{◌≡◌, refl, ap, sym, ◌∙◌, subst}
use mathlib.Core.Bool.{Bool, true, false, not}
use mathlib.Core.List.{List}
use Prim.Native.Nat.{ℕ, ◌+◌, ◌*◌, ◌≤◌, ◌<◌}
use native.Mathlib.Omega.{arith}
use lib.Dec.{eqb}
use lib.ListN.{length, get_or, take, drop, length-take, length-drop}
use lib.Seq.{get_or-take, length-take-le}
use borrow.Author.Tests.{lt-ltb, le-ltb, ltb-false, eq-eqb, ne_eqb, eqb-true, not-false}
use Rattle.numbers.specs.Words.{when◌then◌else◌}
use Rattle.numbers.specs.declared.View.{View}
use Rattle.numbers.specs.declared.Op.{Op}
use Rattle.numbers.proofs.WordLaws.{if-true, if-false, split}
use Rattle.config.specs.Setup.{primary_of}
use Rattle.config.specs.Replicas.{quorum_of}
use Rattle.config.proofs.SetupLaws.{primary-below}
use Rattle.book.specs.Log.{keeps_first}
use Rattle.book.proofs.LogLaws.{keeps-short, keeps-prefix}
use Rattle.state.specs.Statuses.{no_report}
use Rattle.state.specs.Lengths.{stored_place}
use Rattle.state.specs.declared.Report.{Report}
use Rattle.state.specs.declared.Reports.{Reports}
use Rattle.state.proofs.LengthLaws.{stored-place-next}
use Rattle.reports.specs.Rows.{filled_in, greatest_in, latest_view_in, chosen_from}
use Rattle.reports.specs.Judge.{log_from, chosen_log, weighed, judged, primary_row, answered_by_primary, responded, Lies, Fits}
use Rattle.reports.specs.declared.Best.{Best}
use Rattle.reports.specs.declared.Judged.{Judged}
use Rattle.reports.specs.declared.Judged.TheVariants.{Wait, Refuse, Begin}
use Rattle.reports.proofs.RowLaws.{chosen-holds}

-- ---- where a log lies

pub place_is : (room id : ℕ) → 32 * room * id ≡ stored_place room id
unfolding stored_place
place_is room id = refl

length_from : (new : Bool) (at k : ℕ) (stored fresh : List ℕ) → (new ≡ true → k ≤ length fresh) → (new ≡ false → at + k ≤ length stored)
    → length (log_from new at k stored fresh) ≡ k
unfolding log_from
length_from new at k stored fresh h g =
    split (λ (x : List ℕ). length x ≡ k) new _ _ (λ e. length-take-le k fresh (h e))
    (λ e. length-take-le k (drop at stored) (omega (arith, length-drop at stored, g e)))

pub length-chosen : (b : Best) (id room : ℕ) (stored fresh : List ℕ) → Lies b id room stored fresh
    → length (chosen_log b id room stored fresh) ≡ 32 * b.report.op.0
unfolding chosen_log
length-chosen b id room stored fresh h =
    length_from (eqb b.id id) (stored_place room b.id) (32 * b.report.op.0) stored fresh h.new (λ e. h.old)

module _ (t : Reports) (n id room : ℕ) (stored fresh : List ℕ) (f : Fits t n id room stored fresh) where
  -- a report of one of the n replicas, whose log fits its place
  lies : (b : Best) → b.id < n → b.report.op.0 ≤ room → (eqb b.id id ≡ true → 32 * b.report.op.0 ≤ length fresh)
      → Lies b id room stored fresh
  lies b below long new =
      record {
        small = f.small;
        seven = omega (arith, f.few, below);
        long = long;
        old = let h = stored-place-next room b.id n b.report.op.0 below long in omega (arith, f.held);
        new = new;
      }

  pub chosen-lies : Lies (chosen_from 0 (take n t.rows)) id room stored fresh
  chosen-lies = lies (chosen_from 0 (take n t.rows)) p.0 p.1.0 p.1.1
    where
      Good : ℕ → Report → Type 0
      Good k d = (k < n) × ((d.op.0 ≤ room) × (eqb k id ≡ true → 32 * d.op.0 ≤ length fresh))

      each : (k : ℕ) → k < length (take n t.rows) → (get_or (take n t.rows) k no_report).there ≡ true
          → Good (0 + k) (get_or (take n t.rows) k no_report)
      each k h e =
          let m : k < n = omega (arith, length-take n t.rows) in
          let z : 0 + k ≡ k = omega arith in
          rw (z, get_or-take n t.rows k no_report m)
          (m, (f.rows k m (rw (get_or-take n t.rows k no_report m) at e), λ q. rw (eqb-true k id q) f.new))

      p : Good (chosen_from 0 (take n t.rows)).id (chosen_from 0 (take n t.rows)).report
      p = chosen-holds Good 0 (take n t.rows) each (f.some, (omega arith, λ q. omega arith))

  pub primary-lies : (v : ℕ) → (primary_row t n v).report.there ≡ true → Lies (primary_row t n v) id room stored fresh
  primary-lies v e =
      let w : View = record { 0 = v } in
      let p = primary-below n w f.some in
      lies (primary_row t n v) p (f.rows (primary_of n w) p e) (λ q. rw (eqb-true (primary_of n w) id q) f.new)

-- the row that is read
pub primary-is : (t : Reports) (n : ℕ) (v : View) (p : ℕ) (d : Report) → p ≡ primary_of n v → d ≡ get_or t.rows p no_report
    → record { id = p; report = d } ≡ primary_row t n v.0
primary-is t n v p d e f =
    let g : d ≡ get_or t.rows (primary_of n v) no_report = f ∙ ap (λ (i : ℕ). get_or t.rows i no_report) e in
    λ i. record { id = e i; report = g i }

-- ---- `weighed`

module _ (b : Best) (g : Op) (id room c : ℕ) (ours stored fresh : List ℕ) where
  abbrev keep : Bool
  keep = keeps_first c ours b.report.op.0 (chosen_log b id room stored fresh)

  pub passes : b.report.op.0 < g.0 → Refuse ≡ weighed b g id room c ours stored fresh
  unfolding weighed
  passes h = sym (if-true _ _ _ (lt-ltb b.report.op.0 g.0 h))

  long-enough : (y : Bool) → g.0 ≤ b.report.op.0 → keep ≡ y → weighed b g id room c ours stored fresh ≡ (when y then Begin b g else Refuse)
  unfolding weighed
  long-enough y h e =
      if-false _ _ _ (le-ltb b.report.op.0 g.0 h) ∙ ap (λ (x : Bool). when x then Begin b g else Refuse) e

  pub alters : g.0 ≤ b.report.op.0 → keep ≡ false → Refuse ≡ weighed b g id room c ours stored fresh
  unfolding when◌then◌else◌
  alters h e = sym (long-enough false h e)

  pub shortens : g.0 ≤ b.report.op.0 → b.report.op.0 < c → Refuse ≡ weighed b g id room c ours stored fresh
  shortens h k = alters h (keeps-short c ours b.report.op.0 (chosen_log b id room stored fresh) k)

  pub begins : g.0 ≤ b.report.op.0 → keep ≡ true → Begin b g ≡ weighed b g id room c ours stored fresh
  unfolding when◌then◌else◌
  begins h e = sym (long-enough true h e)

  -- what a view begins with: the report and the commit number that were weighed, which passed
  pub record Begins (best : Best) (commit : Op) : Type 0 where
    pub same-report : best ≡ b
    pub same-commit : commit ≡ g
    pub within : g.0 ≤ b.report.op.0
    pub keeps : keeps_first c ours b.report.op.0 (chosen_log b id room stored fresh) ≡ true

  pub weighed-begins : (best : Best) (commit : Op) → weighed b g id room c ours stored fresh ≡ Begin best commit → Begins best commit
  unfolding weighed
  weighed-begins best commit =
      split P _ _ _ (λ _ e. absurd (refused e)) λ h.
      split P _ _ _ (λ k e. record { same-report = report e; same-commit = number e; within = ltb-false _ _ h; keeps = k }) λ _ e.
      absurd (refused e)
    where
      P : Judged → Type 0
      P j = j ≡ Begin best commit → Begins best commit

      refused : Refuse ≡ Begin best commit → ⊥
      refused e = let q : ◌≡◌ {A = ℕ} 0 1 = cc in omega arith

      report : Begin b g ≡ Begin best commit → best ≡ b
      report e = cc

      number : Begin b g ≡ Begin best commit → commit ≡ g
      number e = cc

  -- neither our commit number nor the new one passes the log
  pub begins-within : (best : Best) (commit : Op) → Begins best commit
      → (c ≤ best.report.op.0) × (commit.0 ≤ best.report.op.0)
  begins-within best commit z =
      let k = keeps-prefix c ours b.report.op.0 (chosen_log b id room stored fresh) z.keeps in
      subst (λ (x : Best). (c ≤ x.report.op.0) × (commit.0 ≤ x.report.op.0)) (sym z.same-report)
      (k.0, subst (λ (o : Op). o.0 ≤ b.report.op.0) (sym z.same-commit) z.within)

-- ---- `judged`

module _ (t : Reports) (n id room c : ℕ) (ours stored fresh : List ℕ) where
  pub waits : (k q : ℕ) → k ≡ filled_in (take n t.rows) → q ≡ quorum_of n → k < q → Wait ≡ judged t n id room c ours stored fresh
  unfolding judged
  waits k q e eq h = sym (if-true _ _ _ (rw (← e, ← eq) (lt-ltb k q h)))

  pub weighs : (k q : ℕ) (b : Best) (g : Op) (r : Judged) → k ≡ filled_in (take n t.rows) → q ≡ quorum_of n → q ≤ k
      → b ≡ chosen_from 0 (take n t.rows) → g.0 ≡ greatest_in (take n t.rows) → r ≡ weighed b g id room c ours stored fresh
      → r ≡ judged t n id room c ours stored fresh
  unfolding judged
  weighs k q b g r e eq h p s w =
      let z : g ≡ record { 0 = greatest_in (take n t.rows) } = λ i. record { 0 = s i } in
      w ∙ sym (if-false _ _ _ (rw (← e, ← eq) (le-ltb k q h)) ∙ rw (p, z))

  -- a view begins with the chosen report
  pub begin-lies : Fits t n id room stored fresh → (b : Best) (g : Op) → judged t n id room c ours stored fresh ≡ Begin b g
      → Lies b id room stored fresh
  unfolding judged
  begin-lies f b g =
      split (λ (j : Judged). j ≡ Begin b g → Lies b id room stored fresh) _ _ _ (λ _ e. absurd (wait e)) λ _ e.
      let z = weighed-begins _ _ id room c ours stored fresh b g e in
      subst (λ (x : Best). Lies x id room stored fresh) (sym z.same-report) (chosen-lies t n id room stored fresh f)
    where
      wait : Wait ≡ Begin b g → ⊥
      wait e = let q : ◌≡◌ {A = ℕ} 0 1 = cc in omega arith

-- ---- `answered`

module _ (b : Best) (v id room c : ℕ) (ours stored fresh : List ℕ) where
  abbrev rest : Judged
  rest = weighed b b.report.commit id room c ours stored fresh

  pub absent : not b.report.there ≡ true → Wait ≡ answered_by_primary b v id room c ours stored fresh
  unfolding answered_by_primary
  absent e = sym (if-true _ _ _ e)

  pub silent : not b.report.there ≡ false → not b.report.full ≡ true → Wait ≡ answered_by_primary b v id room c ours stored fresh
  unfolding answered_by_primary
  silent e f = sym (if-false _ _ _ e ∙ if-true _ _ _ f)

  pub older : not b.report.there ≡ false → not b.report.full ≡ false → (b.report.view.0 ≡ v → ⊥)
      → Wait ≡ answered_by_primary b v id room c ours stored fresh
  unfolding answered_by_primary
  older e f h = sym (if-false _ _ _ e ∙ if-false _ _ _ f ∙ if-false _ _ _ (ne_eqb b.report.view.0 v h))

  pub tells : (r : Judged) → not b.report.there ≡ false → not b.report.full ≡ false → b.report.view.0 ≡ v → r ≡ rest
      → r ≡ answered_by_primary b v id room c ours stored fresh
  unfolding answered_by_primary
  tells r e f h p = p ∙ sym (if-false _ _ _ e ∙ if-false _ _ _ f ∙ if-true _ _ _ (eq-eqb b.report.view.0 v h))

-- ---- `responded`

module _ (t : Reports) (n id room view c : ℕ) (ours stored fresh : List ℕ) (k q : ℕ) (ek : k ≡ filled_in (take n t.rows))
    (eq : q ≡ quorum_of n) where
  pub too_few : k < q → Wait ≡ responded t n id room view c ours stored fresh
  unfolding responded
  too_few h = sym (if-true _ _ _ (rw (← ek, ← eq) (lt-ltb k q h)))

  pub behind : (v : ℕ) → q ≤ k → v ≡ latest_view_in (take n t.rows) → v < view → Wait ≡ responded t n id room view c ours stored fresh
  unfolding responded
  behind v h e l = sym (if-false _ _ _ (rw (← ek, ← eq) (le-ltb k q h)) ∙ if-true _ _ _ (rw (← e) (lt-ltb v view l)))

  pub asks-primary : (v : ℕ) (r : Judged) → q ≤ k → v ≡ latest_view_in (take n t.rows) → view ≤ v
      → r ≡ answered_by_primary (primary_row t n v) v id room c ours stored fresh → r ≡ responded t n id room view c ours stored fresh
  unfolding responded
  asks-primary v r h e l p =
      p ∙ sym (if-false _ _ _ (rw (← ek, ← eq) (le-ltb k q h)) ∙ if-false _ _ _ (rw (← e) (le-ltb v view l)) ∙ rw (← e))

-- a recovery ends with the answer of the primary of the latest view, which was in that view
module _ (t : Reports) (n id room view c : ℕ) (ours stored fresh : List ℕ) (b : Best) (g : Op)
    (begun : responded t n id room view c ours stored fresh ≡ Begin b g) where
  abbrev p : Best
  p = primary_row t n (latest_view_in (take n t.rows))

  pub response-begins : (p.report.there ≡ true) × Begins p p.report.commit id room c ours stored fresh b g
  unfolding responded answered_by_primary
  response-begins =
      split P _ _ _ (λ _ e. absurd (wait e)) (λ _.
      split P _ _ _ (λ _ e. absurd (wait e)) (λ _.
      split P _ _ _ (λ _ e. absurd (wait e)) (λ h.
      split P _ _ _ (λ _ e. absurd (wait e)) (λ _.
      split P _ _ _
      (λ _ e. (not-false p.report.there h, weighed-begins p p.report.commit id room c ours stored fresh b g e))
      (λ _ e. absurd (wait e)))))) begun
    where
      P : Judged → Type 0
      P j = j ≡ Begin b g → (p.report.there ≡ true) × Begins p p.report.commit id room c ours stored fresh b g

      wait : Wait ≡ Begin b g → ⊥
      wait e = let q : ◌≡◌ {A = ℕ} 0 1 = cc in omega arith

  pub response-lies : Fits t n id room stored fresh → Lies b id room stored fresh
  response-lies f =
      subst (λ (x : Best). Lies x id room stored fresh) (sym response-begins.1.same-report)
      (primary-lies t n id room stored fresh f (latest_view_in (take n t.rows)) response-begins.0)

  pub response-within : (c ≤ b.report.op.0) × (g.0 ≤ b.report.op.0)
  response-within = begins-within p p.report.commit id room c ours stored fresh b g response-begins.1
