-- Reports keep the entry rules: one that is stored, and the one whose log is installed, which is the new one or a stored one.
--     kept-stored                    the stored logs, after one more
--     begin-whole, response-whole    what a view begins with, or a recovery ends with
-- Assumes nothing.
use Prim.Native.Nat.{ℕ, ◌*◌, ◌≤◌, ◌<◌}
use native.Mathlib.Omega.{arith}
use mathlib.Core.Path.{◌≡◌, sym, ◌∙◌, subst}
use mathlib.Core.Bool.{true}
use mathlib.Core.List.{List}
use mathlib.Core.Logic.{⊎_elim}
use lib.ListN.{length, get_or, set, take, drop}
use lib.Seq.{get_or-set_same, get_or-set_other}
use Rattle.numbers.specs.declared.View.{View}
use Rattle.numbers.specs.declared.Op.{Op}
use Rattle.numbers.proofs.NumberLaws.{eq-or-not}
use Rattle.numbers.proofs.WordLaws.{split}
use Rattle.entries.specs.Entries.{entries_ok}
use Rattle.config.specs.declared.Setup.{Setup}
use Rattle.config.proofs.SetupLaws.{sized, primary-below}
use Rattle.state.specs.Statuses.{no_report}
use Rattle.state.specs.Lengths.{stored_place}
use Rattle.state.specs.declared.Report.{Report}
use Rattle.state.specs.declared.Reports.{Reports}
use Rattle.reports.specs.Rows.{with_report, latest_view_in}
use Rattle.reports.specs.Judge.{judged, responded}
use Rattle.reports.specs.Store.{kept_log}
use Rattle.reports.specs.declared.Best.{Best}
use Rattle.reports.specs.declared.Judged.{Judged}
use Rattle.reports.specs.declared.Judged.TheVariants.{Wait, Begin}
use Rattle.reports.proofs.JudgeLaws.{weighed-begins, response-begins}
use Rattle.reports.proofs.PlaceLaws.{own-ok, other-ok}
use Rattle.reports.proofs.WholeLaws.{Whole, new-whole, row-whole, chosen-whole}
use Rattle.steps.proofs.Ruled.{Lent}

not-waited : (b : Best) (g : Op) → Wait ≡ Begin b g → ⊥
not-waited b g e = let q : ◌≡◌ {A = ℕ} 0 1 = cc in omega arith

-- replica r tells the report d, whose log is in `fresh`
module _ (u : Setup) (op : ℕ) (t : Reports) (log stored : List ℕ) (h : Lent u op t.rows log stored) (r : ℕ) (d : Report) (fresh : List ℕ)
    (below : r < u.n) (short : d.op.0 ≤ u.room) (long : 32 * d.op.0 ≤ length fresh) (ok : entries_ok d.op.0 fresh ≡ true) where
  abbrev l : List Report
  l = t.rows

  abbrev rows : Reports
  rows = with_report t r d

  few : u.n ≤ length l
  few = omega (arith, (sized u h.sized).seven, h.seven)

  held : stored_place u.room u.n ≤ length stored
  held = omega (arith, h.stored-long)

  -- ---- one more is stored

  abbrev now : List ℕ
  now = kept_log u.room r d.op fresh stored

  abbrev RowOk : ℕ → Report → Type 0
  RowOk i x = x.there ≡ true → entries_ok x.op.0 (drop (stored_place u.room i) now) ≡ true

  pub kept-stored : (i : ℕ) → i < u.n → (get_or (set t.rows r d) i no_report).there ≡ true
      → entries_ok (get_or (set t.rows r d) i no_report).op.0 (drop (stored_place u.room i) (kept_log u.room r d.op fresh stored)) ≡ true
  kept-stored i lt =
      ⊎_elim
      (λ q.
      subst (λ (j : ℕ). RowOk j (get_or (set l r d) j no_report)) (sym q)
      (subst (RowOk r) (sym (get_or-set_same l r d no_report (omega (arith, below, few))))
      (λ _. own-ok u.room u.n r d.op fresh stored below short long held ∙ ok)))
      (λ q.
      subst (RowOk i) (sym (get_or-set_other l r i d no_report q))
      (λ p.
      other-ok u.room u.n r d.op fresh stored below short long held i (get_or l i no_report).op.0 lt (h.fits i lt p) q
      ∙ h.stored_ok i lt p))
      (eq-or-not i r)

  -- ---- one is installed

  abbrev new : Whole u stored r fresh r d
  new = new-whole u stored r fresh d below short long ok

  some : 0 < u.n
  some = omega (arith, (sized u h.sized).three)

  module _ (b : Best) (g : Op) where
    abbrev W : Best → Type 0
    W x = Whole u stored r fresh x.id x.report

    abbrev P : Judged → Type 0
    P j = j ≡ Begin b g → W b

    pub begin-whole : (c : ℕ) → judged (with_report t r d) u.n r u.room c log stored fresh ≡ Begin b g
        → Whole u stored r fresh b.id b.report
    unfolding judged
    begin-whole c =
        split P _ _ _ (λ _ e. absurd (not-waited b g e)) λ _ e.
        let z = weighed-begins _ _ r u.room c log stored fresh b g e in
        subst W (sym z.same-report) (chosen-whole u stored r fresh l d new some few held h.fits h.stored_ok)

    pub response-whole : (view c : ℕ) → responded (with_report t r d) u.n r u.room view c log stored fresh ≡ Begin b g
        → Whole u stored r fresh b.id b.report
    response-whole view c e =
        let v : View = record { 0 = latest_view_in (take u.n rows.rows) } in
        let z = response-begins rows u.n r u.room view c log stored fresh b g e in
        subst W (sym z.1.same-report)
        (row-whole u stored r fresh l d new some few held h.fits h.stored_ok _ (primary-below u.n v some) z.0)
