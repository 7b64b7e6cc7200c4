-- DoViewChange and our own DoViewChange keep the entry rules. Assumes nothing.
use Prim.Native.Nat.{ℕ, ◌*◌, ◌≤◌, ◌<◌}
use native.Mathlib.Omega.{arith}
use mathlib.Core.Path.{◌≡◌, refl, ◌∙◌}
use mathlib.Core.Bool.{Bool, true, false}
use mathlib.Core.List.{List}
use lib.ListN.{length, length-set}
use Rattle.numbers.specs.declared.View.{View}
use Rattle.numbers.specs.declared.Op.{Op}
use Rattle.numbers.proofs.WordLaws.{split}
use Rattle.entries.specs.Entries.{entries_ok}
use Rattle.config.proofs.SetupLaws.{sized}
use Rattle.state.specs.State.{changing_to}
use Rattle.state.specs.declared.Replica.{Replica}
use Rattle.state.specs.declared.Report.{Report}
use Rattle.state.specs.declared.Reports.{Reports}
use Rattle.reports.specs.Rows.{with_report}
use Rattle.reports.specs.Judge.{judged}
use Rattle.reports.specs.Store.{chosen_over}
use Rattle.reports.specs.declared.Best.{Best}
use Rattle.reports.specs.declared.Judged.{Judged}
use Rattle.reports.specs.declared.Judged.TheVariants.{Wait, Refuse, Begin}
use Rattle.reports.proofs.WholeLaws.{Whole, over-ok}
use Rattle.do_view_change.specs.Begin.{begun_in, begin_step}
use Rattle.do_view_change.specs.Record.{report_of, own_report, decided_by, decided, kept_by, started_by, by_decision, record_step, told_primary, send_step, do_view_change_step}
use Rattle.book.specs.Memory.{Memory}
use Rattle.do_view_change.specs.declared.Decision.{Decision}
use Rattle.steps.proofs.Ruled.{Has, RuledBy, cleared, still, wrote, SentRuled}
use Rattle.view_change.proofs.ChangeRuled.{start-view-has}
use Rattle.reports.proofs.ReportRuled.{kept-stored, begin-whole}

-- ---- record_do_view_change, from state t; s is the state as it was

module _ (s t : Replica) (m : Memory) (hs : Has s m) (ht : Has t m) where
  -- replica r tells the report d, whose log is in `fresh`
  module _ (first : Bool) (r : ℕ) (d : Report) (fresh : List ℕ) (below : r < t.setup.n) (short : d.op.0 ≤ t.setup.room)
      (long : 32 * d.op.0 ≤ length fresh) (ok : entries_ok d.op.0 fresh ≡ true) where
    abbrev rows : Reports
    rows = with_report t.reports r d

    kept-ruled : RuledBy (kept_by t rows r d.op first fresh m)
    unfolding kept_by
    kept-ruled =
        record {
          log = ht.log-ok;
          seven = length-set t.reports.rows r d ∙ ht.seven;
          stored = kept-stored t.setup t.op.0 t.reports m.runs.log m.stored ht r d fresh below short long ok;
        }

    abbrev verdict : Judged
    verdict = judged rows t.setup.n r t.setup.room t.commit.0 m.runs.log m.stored fresh

    started-ruled : (b : Best) (g : Op) → verdict ≡ Begin b g
        → RuledBy (started_by t b.report.op g first (chosen_over b r t.setup.room m.stored fresh m.runs.log) m)
    unfolding started_by begin_step begun_in
    started-ruled b g e =
        let w : Whole t.setup m.stored r fresh b.id b.report =
        begin-whole t.setup t.op.0 t.reports m.runs.log m.stored ht r d fresh below short long ok b g t.commit.0 e in
        wrote (cleared ht) (over-ok t.setup m.stored r fresh b w m.runs.log ht.log-long)

    abbrev D : Decision → Type 0
    D z = RuledBy (by_decision z s t rows r d.op first fresh m)

    judged-ruled : (j : Judged) (a b : ℕ) → verdict ≡ j → D (decided_by j t first a b)
    unfolding decided_by by_decision
    judged-ruled Wait a b e = split D _ _ _ (λ _. still hs) (λ _. kept-ruled)
    judged-ruled Refuse a b e = still hs
    judged-ruled (Begin best g) a b e =
        split D _ _ _ (λ _. still hs) (λ _. split D _ _ _ (λ _. still hs) (λ _. started-ruled best g e))

    pub recorded-ruled : RuledBy (record_step s t r d first fresh m)
    unfolding record_step decided
    recorded-ruled = judged-ruled verdict (length m.out) (length m.reps) refl

  -- send_do_view_change
  pub send-ruled : (first : Bool) → RuledBy (send_step s t first m)
  unfolding send_step told_primary
  send-ruled first =
      split RuledBy _ _ _
      (λ _.
      recorded-ruled first t.setup.id (own_report t) m.runs.log (sized t.setup ht.sized).own ht.op_le
      (omega (arith, ht.op_le, ht.log-long)) ht.log-ok)
      (λ _. split (SentRuled m) _ _ _ (λ _. still hs) (λ _. still ht))

module _ (s : Replica) (m : Memory) (h : Has s m) where
  -- ---- DoViewChange

  pub do-view-change-ruled : (v : View) (r : ℕ) (l : View) (o c : Op) (part : List ℕ) → r < s.setup.n → o.0 ≤ s.setup.room
      → 32 * o.0 ≤ length part → entries_ok o.0 part ≡ true → RuledBy (do_view_change_step s v r l o c part m)
  unfolding do_view_change_step
  do-view-change-ruled v r l o c part below short long ok =
      split RuledBy _ _ _ (λ _. still h) λ _.
      split RuledBy _ _ _ (λ _. still h) λ _.
      split RuledBy _ _ _
      (λ _. recorded-ruled s (changing_to s v) m h (cleared h) true r (report_of l o c) part below short long ok)
      λ _.
      split RuledBy _ _ _ (λ _. still (start-view-has s m h r m.runs.log m.out)) λ _.
      recorded-ruled s s m h h false r (report_of l o c) part below short long ok
