-- DoViewChange and our own DoViewChange keep what refusal 1 asks. Assumes nothing.
use mathlib.Core.Path.{◌≡◌, refl, ◌∙◌}
use mathlib.Core.Bool.{Bool, true, false}
use mathlib.Core.List.{List}
use Prim.Native.Nat.{ℕ, ◌*◌, ◌≤◌, ◌<◌}
use native.Mathlib.Omega.{arith}
use lib.ListN.{length, length-append, length-replicate}
use Rattle.numbers.specs.declared.View.{View}
use Rattle.numbers.specs.declared.Op.{Op}
use Rattle.numbers.proofs.WordLaws.{split}
use Rattle.numbers.proofs.RunLaws.{length_over}
use Rattle.config.proofs.SetupLaws.{sized}
use Rattle.state.specs.State.{changing_to, with_reports}
use Rattle.state.specs.Answers.{refusal}
use Rattle.state.specs.Lengths.{acks_length, stored_length}
use Rattle.state.specs.declared.Replica.{Replica}
use Rattle.state.specs.declared.Report.{Report}
use Rattle.state.specs.declared.Reports.{Reports}
use Rattle.reports.specs.Rows.{with_report}
use Rattle.state.specs.Sound.{gathered_ok}
use Rattle.state.proofs.SoundLaws.{none-gathered}
use Rattle.reports.specs.Judge.{judged, Fits}
use Rattle.reports.specs.Store.{chosen_over}
use Rattle.reports.specs.declared.Best.{Best}
use Rattle.reports.specs.declared.Judged.{Judged}
use Rattle.reports.specs.declared.Judged.TheVariants.{Wait, Refuse, Begin}
use Rattle.reports.proofs.JudgeLaws.{begin-lies}
use Rattle.steps.specs.Steps.{Spoke, settled, committed_to}
use Rattle.book.specs.Memory.{Memory}
use Rattle.do_view_change.specs.Begin.{own_acks, entered, begun_in, begin_step}
use Rattle.steps.specs.Recorded.{recorded, Gathering, only_sent}
use Rattle.do_view_change.specs.Record.{report_of, own_report, decided_by, decided, kept_by, started_by, by_decision, record_step, told_primary, send_step, do_view_change_step}
use Rattle.do_view_change.specs.declared.Decision.{Decision}
use Rattle.steps.proofs.Held.{Held, Kept, as_it_was, moves, settled-held, still_kept, sent-kept}
use Rattle.reports.proofs.ReportStays.{row_ok, set-ok, rows_fit, begin-keeps, kept-length, installed-held}
use Rattle.view_change.proofs.ChangeStays.{sent-start-view-held}
use Rattle.frames.specs.declared.Refusal.{Refusal}
use Rattle.frames.specs.declared.Refusal.TheVariants.{NoRoomForMessages, NoRoomForReplies, Uncommits}

-- ---- record_do_view_change

own-acks-length : (u : Replica) → u.commit.0 ≤ u.op.0 → u.op.0 ≤ u.setup.room → length (own_acks u) ≡ u.setup.room
unfolding own_acks
own-acks-length u c o = simp (length-append, length-replicate) (omega (arith, c, o))

-- from state t; s is the state as it was
module _ (s t : Replica) (m : Memory) (hs : Held t.setup s m.runs) (ht : Held t.setup t m.runs)
    (acks-long : length m.acks ≡ acks_length t.setup) (stored-long : length m.stored ≡ stored_length t.setup) where
  refused-kept : (k : Refusal) → Kept t.setup (recorded (refusal k s) m)
  refused-kept k = record { held = hs; acks-long = acks-long; stored-long = stored-long }

  -- replica r tells the report d, whose log is in `fresh`
  module _ (first : Bool) (r : ℕ) (d : Report) (fresh : List ℕ) (there : d.there ≡ true)
      (told : (r < t.setup.n) × ((d.op.0 ≤ t.setup.room) × ((d.commit.0 ≤ d.op.0) × (32 * d.op.0 ≤ length fresh)))) where
    abbrev rows : Reports
    rows = with_report t.reports r d

    rows_ok : gathered_ok t.setup t.starts rows.rows ≡ true
    rows_ok =
        set-ok t.setup t.starts r t.reports.rows d told.0 (row_ok t.setup.room d there told.1.0 told.1.1.0) ht.reports

    fits : Fits rows t.setup.n r t.setup.room m.stored fresh
    fits = rows_fit t.setup t.starts t.reports r d m.stored fresh ht.sound.sized rows_ok stored-long told.1.1.1

    kept-kept : Kept t.setup (kept_by t rows r d.op first fresh m)
    unfolding kept_by
    kept-kept =
        record {
          held = moves ht (with_reports t rows) refl refl refl rows_ok;
          acks-long = acks-long;
          stored-long = kept-length t.setup r d.op fresh m.stored told.0 told.1.0 told.1.1.1 stored-long;
        }

    abbrev verdict : Judged
    verdict = judged rows t.setup.n r t.setup.room t.commit.0 m.runs.log m.stored fresh

    started-kept : (b : Best) (g : Op) → verdict ≡ Begin b g
        → Kept t.setup (started_by t b.report.op g first (chosen_over b r t.setup.room m.stored fresh m.runs.log) m)
    unfolding started_by begin_step begun_in settled
    started-kept b g e =
        let f = begin-lies rows t.setup.n r t.setup.room t.commit.0 m.runs.log m.stored fresh fits b g e in
        let k = begin-keeps b g rows t.setup.n r t.setup.room t.commit.0 m.runs.log m.stored fresh e in
        let i = installed-held b r m.stored fresh (entered t b.report.op) ht f refl refl k.1 (none-gathered t.setup) in
        let u = committed_to (entered t b.report.op) g (record { log = chosen_over b r t.setup.room m.stored fresh m.runs.log; money = m.runs.money }) in
        let j = settled-held g i k.0 in
        let n = own-acks-length u j.sound.commit-le j.sound.op_le in
        record {
          held = j;
          acks-long = length_over (own_acks u) m.acks (omega (arith, n, acks-long)) ∙ acks-long;
          stored-long = stored-long;
        }

    abbrev D : Decision → Type 0
    D z = Kept t.setup (by_decision z s t rows r d.op first fresh m)

    judged-kept : (j : Judged) (a b : ℕ) → verdict ≡ j → Kept t.setup (by_decision (decided_by j t first a b) s t rows r d.op first fresh m)
    unfolding decided_by by_decision
    judged-kept Wait a b e = split D _ _ _ (λ _. refused-kept NoRoomForMessages) (λ _. kept-kept)
    judged-kept Refuse a b e = refused-kept Uncommits
    judged-kept (Begin best g) a b e =
        split D _ _ _ (λ _. refused-kept NoRoomForMessages) (λ _.
        split D _ _ _ (λ _. refused-kept NoRoomForReplies) (λ _. started-kept best g e))

    pub recorded-kept : Kept t.setup (record_step s t r d first fresh m)
    unfolding record_step decided
    recorded-kept = judged-kept verdict (length m.out) (length m.reps) refl

  -- ---- send_do_view_change

  pub send-kept : (first : Bool) → Kept t.setup (send_step s t first m)
  unfolding send_step told_primary
  send-kept first =
      let z = sized t.setup ht.sound.sized in
      let a = ht.sound in
      split (Kept t.setup) _ _ _
      (λ _.
      recorded-kept first t.setup.id (own_report t) m.runs.log refl
      (z.own, (a.op_le, (a.commit-le, omega (arith, a.op_le, a.log-long)))))
      (λ _.
      split (λ (d : Spoke). Kept t.setup (only_sent m d)) _ _ _
      (λ _. record { held = hs; acks-long = acks-long; stored-long = stored-long })
      (λ _. record { held = ht; acks-long = acks-long; stored-long = stored-long }))

-- ---- DoViewChange

module _ (s : Replica) (m : Memory) (h : Gathering s m) where
  abbrev here : Held s.setup s m.runs
  here = as_it_was h

  pub do-view-change-kept : (v : View) (r : ℕ) (l : View) (o c : Op) (part : List ℕ)
      → (r < s.setup.n) × ((o.0 ≤ s.setup.room) × ((c.0 ≤ o.0) × (32 * o.0 ≤ length part)))
      → Kept s.setup (do_view_change_step s v r l o c part m)
  unfolding do_view_change_step
  do-view-change-kept v r l o c part told =
      split (Kept s.setup) _ _ _ (λ _. still_kept h _ here) λ _.
      split (Kept s.setup) _ _ _ (λ _. still_kept h _ here) λ _.
      split (Kept s.setup) _ _ _
      (λ _.
      recorded-kept s (changing_to s v) m here (moves here (changing_to s v) refl refl refl (none-gathered s.setup)) h.acks-long
      h.stored-long true r (report_of l o c) part refl told)
      λ _.
      split (Kept s.setup) _ _ _ (λ _. sent-kept h _ (sent-start-view-held r m.runs.log m.out here)) λ _.
      recorded-kept s s m here here h.acks-long h.stored-long false r (report_of l o c) part refl told
