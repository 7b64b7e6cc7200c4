-- Reports and their logs keep what refusal 1 asks: one that is kept, and one that is installed.
--     row_ok, set-ok, rows_fit              a row that is stored, and the rows that are judged
--     begin-keeps, response-keeps           what a view begins with, or a recovery ends with, has all that is committed
--     kept-length, installed-held           the log of a report that is kept, and of one that is installed
-- Assumes nothing.
use mathlib.Core.Path.{◌≡◌, refl, ap, ◌∙◌}
use mathlib.Core.Bool.{true, not}
use mathlib.Core.List.{List, [], ◌∷◌}
use Prim.Native.Nat.{ℕ, zero, suc, ◌*◌, ◌≤◌, ◌<◌}
use native.Mathlib.Omega.{arith}
use borrow.Author.Tests.{le-leb}
use lib.Dec.{leb}
use lib.ListN.{length, get_or, set, take}
use lib.Seq.{length-take-le}
use Rattle.numbers.specs.declared.Op.{Op}
use Rattle.numbers.proofs.WordLaws.{if-true, if-false, split}
use Rattle.numbers.proofs.RunLaws.{put-length}
use Rattle.config.specs.Setup.{setup_ok}
use Rattle.config.specs.declared.Setup.{Setup}
use Rattle.config.proofs.SetupLaws.{sized}
use Rattle.book.proofs.LogLaws.{with-length, keeps-prefix}
use Rattle.state.specs.Statuses.{no_report}
use Rattle.state.specs.Lengths.{stored_place, stored_length}
use Rattle.state.specs.declared.Replica.{Replica}
use Rattle.state.specs.declared.Report.{Report}
use Rattle.state.specs.declared.Reports.{Reports}
use Rattle.state.proofs.LengthLaws.{stored-place-next}
use Rattle.reports.specs.Rows.{with_report}
use Rattle.state.specs.Sound.{report_ok, gathered_ok}
use Rattle.reports.specs.Judge.{chosen_log, weighed, judged, answered_by_primary, responded, Lies, Fits}
use Rattle.reports.specs.Store.{kept_log, chosen_over}
use Rattle.reports.specs.declared.Best.{Best}
use Rattle.reports.specs.declared.Judged.{Judged}
use Rattle.reports.specs.declared.Judged.TheVariants.{Wait, Begin}
use Rattle.state.proofs.SoundLaws.{gathered-is, is-gathered, report-set}
use Rattle.reports.proofs.JudgeLaws.{length-chosen, weighed-begins}
use Rattle.reports.proofs.StoreLaws.{install-fits}
use Rattle.book.specs.Memory.{Runs}
use Rattle.steps.proofs.Held.{Held, gathered-rows, other}

-- ---- rows

pub row_ok : (room : ℕ) (d : Report) → d.there ≡ true → d.op.0 ≤ room → d.commit.0 ≤ d.op.0 → report_ok room d ≡ true
unfolding report_ok
row_ok room d t h g =
    if-false (not d.there) _ _ (ap not t) ∙ if-true (leb d.op.0 room) _ _ (le-leb d.op.0 room h)
    ∙ le-leb d.commit.0 d.op.0 g

-- the rows with a report of replica k
pub set-ok : (u : Setup) (starts k : ℕ) (l : List Report) (d : Report) → k < u.n → report_ok u.room d ≡ true → gathered_ok u starts l ≡ true
    → gathered_ok u starts (set l k d) ≡ true
set-ok u starts k l d lt e h =
    let p = gathered-is u starts l h in
    is-gathered u starts (set l k d) p.0 (report-set u.room u.n k l d lt e p.1)

row-set : (P : Report → Type 0) (l : List Report) (k : ℕ) (d : Report) → P d → P no_report → P (get_or (set l k d) k no_report)
row-set P [] k d p q = q
row-set P (x ∷ xs) zero d p q = p
row-set P (x ∷ xs) (suc k) d p q = row-set P xs k d p q

-- the rows that are judged: the new report among them
pub rows_fit : (u : Setup) (starts : ℕ) (t : Reports) (r : ℕ) (d : Report) (stored fresh : List ℕ) → setup_ok u ≡ true
    → gathered_ok u starts (with_report t r d).rows ≡ true → length stored ≡ stored_length u → 32 * d.op.0 ≤ length fresh
    → Fits (with_report t r d) u.n r u.room stored fresh
rows_fit u starts t r d stored fresh ok h long l =
    let z = sized u ok in
    record {
      few = z.seven;
      some = omega (arith, z.three);
      small = z.room-high;
      held = omega (arith, long);
      rows = λ i lt y. (gathered-rows u starts (with_report t r d).rows h i lt y).0;
      new = row-set (λ (x : Report). 32 * x.op.0 ≤ length fresh) t.rows r d l (omega arith);
    }

-- ---- what is begun with

module _ (b : Best) (g : Op) where
  not-waited : Wait ≡ Begin b g → ⊥
  not-waited e = let q : ◌≡◌ {A = ℕ} 0 1 = cc in omega arith

  weighed-keeps : (x : Best) (k : Op) (id room c : ℕ) (ours stored fresh : List ℕ) → weighed x k id room c ours stored fresh ≡ Begin b g
      → (g.0 ≤ b.report.op.0) × (c ≤ b.report.op.0)
  weighed-keeps x k id room c ours stored fresh e =
      let z = weighed-begins x k id room c ours stored fresh b g e in
      rw (z.same-report, z.same-commit)
      (z.within, (keeps-prefix c ours x.report.op.0 (chosen_log x id room stored fresh) z.keeps).0)

  module _ (t : Reports) (n id room c : ℕ) (ours stored fresh : List ℕ) where
    abbrev P : Judged → Type 0
    P j = j ≡ Begin b g → (g.0 ≤ b.report.op.0) × (c ≤ b.report.op.0)

    pub begin-keeps : judged t n id room c ours stored fresh ≡ Begin b g → (g.0 ≤ b.report.op.0) × (c ≤ b.report.op.0)
    unfolding judged
    begin-keeps = split P _ _ _ (λ _ e. absurd (not-waited e)) (λ _. weighed-keeps _ _ id room c ours stored fresh)

    pub response-keeps : (view : ℕ) → responded t n id room view c ours stored fresh ≡ Begin b g
        → (g.0 ≤ b.report.op.0) × (c ≤ b.report.op.0)
    unfolding responded answered_by_primary
    response-keeps view =
        split P _ _ _ (λ _ e. absurd (not-waited e)) λ _.
        split P _ _ _ (λ _ e. absurd (not-waited e)) λ _.
        split P _ _ _ (λ _ e. absurd (not-waited e)) λ _.
        split P _ _ _ (λ _ e. absurd (not-waited e)) λ _.
        split P _ _ _ (λ _. weighed-keeps _ _ id room c ours stored fresh) (λ _ e. absurd (not-waited e))

-- ---- logs

pub kept-length : (u : Setup) (r : ℕ) (o : Op) (fresh stored : List ℕ) → r < u.n → o.0 ≤ u.room → 32 * o.0 ≤ length fresh
    → length stored ≡ stored_length u → length (kept_log u.room r o fresh stored) ≡ stored_length u
unfolding kept_log
kept-length u r o fresh stored h g l e =
    let k : length (take (32 * o.0) fresh) ≡ 32 * o.0 = length-take-le (32 * o.0) fresh l in
    put-length (stored_place u.room r) (take (32 * o.0) fresh) stored
    (omega (arith, k, e, stored-place-next u.room r u.n o.0 h g))
    ∙ e

-- the chosen log in place of ours
pub installed-held : {s : Replica} {x : Runs} (b : Best) (r : ℕ) (stored fresh : List ℕ) (t : Replica) → Held s.setup s x
    → Lies b r s.setup.room stored fresh → t.setup ≡ s.setup → t.op.0 ≡ b.report.op.0 → t.commit.0 ≤ b.report.op.0
    → gathered_ok s.setup t.starts t.reports.rows ≡ true
    → Held s.setup t (record { log = chosen_over b r s.setup.room stored fresh x.log; money = x.money })
unfolding chosen_over
installed-held {s} {x} b r stored fresh t h f e o c q =
    let k = b.report.op.0 in
    let a = h.sound in
    let i = install-fits b r s.setup.room stored fresh x.log f a.log-long in
    let n = with-length 0 k (chosen_log b r s.setup.room stored fresh) x.log (length-chosen b r s.setup.room stored fresh f) i.1 in
    other {s = s}
    (record {
      sound =
          record {
            sized = a.sized;
            commit-le = a.commit-le;
            op_le = a.op_le;
            log-long = n ∙ a.log-long;
            results-long = a.results-long;
            totals-long = a.totals-long;
          };
      setup = refl;
      reports = h.reports;
    })
    t e (omega (arith, c, o)) (omega (arith, o, f.long)) q
