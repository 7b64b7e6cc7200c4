-- DoViewChange and our own DoViewChange aren't refused for want of room in areas of `out_length` and `reps_length` bytes. Assumes nothing.
use mathlib.Core.Path.{◌≡◌, refl}
use mathlib.Core.Bool.{Bool, true, false}
use mathlib.Core.List.{List}
use Prim.Native.Nat.{ℕ, ◌+◌, ◌-◌, ◌*◌, ◌≤◌, ◌<◌}
use native.Mathlib.Nat.{mul-add}
use native.Mathlib.Omega.{arith}
use lib.ListN.{length}
use Rattle.numbers.specs.declared.View.{View}
use Rattle.numbers.specs.declared.Op.{Op}
use Rattle.numbers.proofs.WordLaws.{split}
use Rattle.config.specs.Setup.{setup_ok}
use Rattle.config.proofs.SetupLaws.{sized}
use Rattle.state.specs.State.{changing_to}
use Rattle.state.specs.Lengths.{stored_length}
use Rattle.state.specs.Sound.{gathered_ok}
use Rattle.state.specs.declared.Replica.{Replica}
use Rattle.state.specs.declared.Report.{Report}
use Rattle.state.specs.declared.Reports.{Reports}
use Rattle.reports.specs.Rows.{with_report}
use Rattle.reports.specs.Judge.{judged, Fits}
use Rattle.reports.specs.declared.Best.{Best}
use Rattle.reports.specs.declared.Judged.{Judged}
use Rattle.reports.specs.declared.Judged.TheVariants.{Wait, Refuse, Begin}
use Rattle.reports.proofs.JudgeLaws.{begin-lies}
use Rattle.reports.proofs.ReportStays.{row_ok, set-ok, rows_fit, begin-keeps}
use Rattle.steps.specs.Steps.{Spoke}
use Rattle.steps.specs.Recorded.{Recorded, Gathering}
use Rattle.steps.specs.Areas.{out_length}
use Rattle.steps.proofs.AreaLaws.{Answers, both-fit, each_fits, later, done, no_room, no-reply-room}
use Rattle.state.proofs.SoundLaws.{none-gathered}
use Rattle.steps.proofs.Held.{Held, as_it_was, moves}
use Rattle.view_change.proofs.ChangeSuffices.{sent-start-view-suffices}
use Rattle.book.specs.Memory.{Memory}
use Rattle.do_view_change.specs.Begin.{first_length, start_views_length, entered, owed, begun_in, begin_step}
use Rattle.do_view_change.specs.Record.{report_of, own_report, decided_by, decided, kept_by, started_by, by_decision, record_step, report_length, told_primary, send_step, do_view_change_step}
use Rattle.do_view_change.specs.declared.Decision.{Decision}
use Rattle.state.specs.Answers.{code_of}

-- ---- lengths

-- what goes out first
pub first_short : (first : Bool) (t : Replica) → first_length first t ≤ 12 * (t.setup.n - 1)
unfolding first_length
first_short first t = split (λ (k : ℕ). k ≤ 12 * (t.setup.n - 1)) _ _ _ (λ _. omega arith) (λ _. omega arith)

module _ (t : Replica) (ok : setup_ok t.setup ≡ true) (first : Bool) where
  pub first_fits : first_length first t ≤ out_length t.setup
  first_fits = omega (arith, first_short first t, each_fits t.setup ok 12 (omega arith))

  -- and StartView to all others, with o entries
  views-fit : (o : Op) → o.0 ≤ t.setup.room → first_length first t + start_views_length (entered t o) ≤ out_length t.setup
  views-fit o l =
      let k = t.setup.n - 1 in
      let z = (sized t.setup ok).room-low in
      omega (arith, first_short first t, mul-add k 12 (19 + 32 * o.0), each_fits t.setup ok (12 + (19 + 32 * o.0)) (omega (arith, l, z)))

  -- or our DoViewChange
  report-fits : t.op.0 ≤ t.setup.room → first_length first t + report_length t ≤ out_length t.setup
  report-fits l =
      let z = (sized t.setup ok).room-low in
      omega (arith, first_short first t, both-fit t.setup ok 12 (24 + 32 * t.op.0) (omega (arith, l, z)))

-- ---- record_do_view_change, from state t; s is the state as it was

module _ (s t : Replica) (m : Memory) (ht : Held t.setup t m.runs) (stored-long : length m.stored ≡ stored_length t.setup) where
  abbrev pub Enough : Recorded → Type 0
  Enough d = Answers t.setup (length m.out) (length m.reps) (code_of d.answer)

  -- replica r tells the report d, whose log is in `fresh`
  module _ (first : Bool) (r : ℕ) (d : Report) (fresh : List ℕ) (lt : r < t.setup.n) (there : d.there ≡ true)
      (op_le : d.op.0 ≤ t.setup.room) (commit-le : d.commit.0 ≤ d.op.0)
      (long : 32 * d.op.0 ≤ length fresh) where
    abbrev pub rows : Reports
    rows = with_report t.reports r d

    rows_ok : gathered_ok t.setup t.starts rows.rows ≡ true
    rows_ok = set-ok t.setup t.starts r t.reports.rows d lt (row_ok t.setup.room d there op_le commit-le) ht.reports

    fits : Fits rows t.setup.n r t.setup.room m.stored fresh
    fits = rows_fit t.setup t.starts t.reports r d m.stored fresh ht.sound.sized rows_ok stored-long long

    abbrev pub verdict : Judged
    verdict = judged rows t.setup.n r t.setup.room t.commit.0 m.runs.log m.stored fresh

    -- the chosen log has its place, and the new commit number doesn't pass it
    pub begin-short : (b : Best) (g : Op) → verdict ≡ Begin b g → (b.report.op.0 ≤ t.setup.room) × (g.0 ≤ t.setup.room)
    begin-short b g e =
        let f = begin-lies rows t.setup.n r t.setup.room t.commit.0 m.runs.log m.stored fresh fits b g e in
        let k = begin-keeps b g rows t.setup.n r t.setup.room t.commit.0 m.runs.log m.stored fresh e in
        (f.long, omega (arith, f.long, k.0))

    abbrev D : Decision → Type 0
    D z = Enough (by_decision z s t rows r d.op first fresh m)

    judged-suffices : (j : Judged) → verdict ≡ j → D (decided_by j t first (length m.out) (length m.reps))
    unfolding decided_by by_decision kept_by started_by begin_step begun_in
    judged-suffices Wait e = split D _ _ _ (no_room (first_length first t) (first_fits t ht.sound.sized first)) (λ _. done)
    judged-suffices Refuse e = later (omega arith) (omega arith)
    judged-suffices (Begin b g) e =
        let k = begin-short b g e in
        split D _ _ _ (no_room _ (views-fit t ht.sound.sized first b.report.op k.0)) λ _.
        split D _ _ _ (no-reply-room (36 * owed t g) (omega (arith, k.1))) λ _. done

    pub recorded-suffices : Enough (record_step s t r d first fresh m)
    unfolding record_step decided
    recorded-suffices = judged-suffices verdict refl

  -- ---- send_do_view_change

  pub send-suffices : (first : Bool) → Enough (send_step s t first m)
  unfolding send_step told_primary
  send-suffices first =
      let a = ht.sound in
      split Enough _ _ _
      (λ _. recorded-suffices first t.setup.id (own_report t) m.runs.log (sized t.setup a.sized).own refl a.op_le a.commit-le (omega (arith, a.op_le, a.log-long)))
      (λ _.
      split (λ (d : Spoke). Answers t.setup (length m.out) (length m.reps) (code_of d.answer)) _ _ _
      (no_room _ (report-fits t a.sized first a.op_le)) (λ _. done))

-- ---- DoViewChange

module _ (s : Replica) (m : Memory) (h : Gathering s m) where
  abbrev EnoughHere : Recorded → Type 0
  EnoughHere d = Answers s.setup (length m.out) (length m.reps) (code_of d.answer)

  pub do-view-change-suffices : (v : View) (r : ℕ) (l : View) (o c : Op) (part : List ℕ)
      → (r < s.setup.n) × ((o.0 ≤ s.setup.room) × ((c.0 ≤ o.0) × (32 * o.0 ≤ length part)))
      → EnoughHere (do_view_change_step s v r l o c part m)
  unfolding do_view_change_step
  do-view-change-suffices v r l o c part told =
      let here = as_it_was h in
      split EnoughHere _ _ _ (λ _. done) λ _.
      split EnoughHere _ _ _ (λ _. done) λ _.
      split EnoughHere _ _ _
      (λ _.
      recorded-suffices s (changing_to s v) m (moves here (changing_to s v) refl refl refl (none-gathered s.setup)) h.stored-long true r
      (report_of l o c) part told.0 refl told.1.0 told.1.1.0 told.1.1.1)
      λ _.
      split EnoughHere _ _ _
      (λ _. sent-start-view-suffices m.out (length m.reps) s h.sound.sized h.sound.op_le r m.runs.log) λ _.
      recorded-suffices s s m here h.stored-long false r (report_of l o c) part told.0 refl told.1.0 told.1.1.0 told.1.1.1
