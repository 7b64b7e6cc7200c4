-- Recovery and RecoveryResponse keep what refusal 1 asks. Assumes nothing.
use Rattle.std.specs.Prelude.{Option}
use mathlib.Core.Path.{◌≡◌, refl}
use mathlib.Core.Bool.{true}
use mathlib.Core.List.{List}
use Prim.Native.Nat.{ℕ, ◌*◌, ◌≤◌, ◌<◌}
use lib.ListN.{length}
use Rattle.numbers.specs.declared.View.{View}
use Rattle.numbers.proofs.WordLaws.{split}
use Rattle.frames.specs.declared.Progress.{Progress}
use Rattle.state.specs.State.{changing_to, with_reports}
use Rattle.state.specs.declared.Replica.{Replica}
use Rattle.state.specs.declared.Report.{Report}
use Rattle.state.specs.declared.Reports.{Reports}
use Rattle.reports.specs.Rows.{with_report}
use Rattle.state.specs.Sound.{gathered_ok}
use Rattle.state.proofs.SoundLaws.{none-gathered}
use Rattle.reports.specs.Judge.{responded, Fits}
use Rattle.reports.specs.declared.Judged.{Judged}
use Rattle.reports.specs.declared.Judged.TheVariants.{Wait, Refuse, Begin}
use Rattle.reports.proofs.JudgeLaws.{response-lies}
use Rattle.steps.specs.Steps.{Spoke}
use Rattle.steps.specs.Recorded.{Gathering}
use Rattle.book.specs.Memory.{Memory}
use Rattle.recovery.specs.Recovery.{Collected, recovering_tick, full_answer, bare_answer, recovery_step, response_of, back_in, recovered_by, by_response, collected_by, response_step, of_collected}
use Rattle.recovery.proofs.NotedLift.{response-there}
use Rattle.steps.proofs.Held.{Held, Kept, as_it_was, moves, settled-held}
use Rattle.view_change.proofs.ChangeStays.{started-held}
use Rattle.reports.proofs.ReportStays.{row_ok, set-ok, rows_fit, response-keeps, kept-length, installed-held}

module _ (s : Replica) (m : Memory) (h : Gathering s m) where
  abbrev here : Held s.setup s m.runs
  here = as_it_was h

  -- ---- messages alone

  abbrev Speaks : Spoke → Type 0
  Speaks d = Held s.setup d.answer.state m.runs

  pub recovering-held : Speaks (recovering_tick s m.out)
  unfolding recovering_tick
  recovering-held = split Speaks _ _ _ (λ _. here) (λ _. here)

  pub recovery-held : (r x : ℕ) (v : View) → Speaks (recovery_step s r x v m.runs.log m.out)
  unfolding recovery_step full_answer bare_answer
  recovery-held r x v =
      split Speaks _ _ _
      (λ _. started-held here s v m.out (moves here (changing_to s v) refl refl refl (none-gathered s.setup))) λ _.
      split Speaks _ _ _ (λ _. here) λ _.
      split Speaks _ _ _ (λ _. split Speaks _ _ _ (λ _. here) (λ _. here)) λ _.
      split Speaks _ _ _ (λ _. here) (λ _. here)

  -- ---- RecoveryResponse

  abbrev Collects : Collected → Type 0
  Collects d = Kept s.setup (of_collected m d)

  -- replica r answers d, whose log is in `fresh`
  module _ (r : ℕ) (d : Report) (fresh : List ℕ) (there : d.there ≡ true)
      (told : (r < s.setup.n) × ((d.op.0 ≤ s.setup.room) × ((d.commit.0 ≤ d.op.0) × (32 * d.op.0 ≤ length fresh)))) where
    abbrev rows : Reports
    rows = with_report s.reports r d

    rows_ok : gathered_ok s.setup s.starts rows.rows ≡ true
    rows_ok =
        set-ok s.setup s.starts r s.reports.rows d told.0 (row_ok s.setup.room d there told.1.0 told.1.1.0) h.reports

    fits : Fits rows s.setup.n r s.setup.room m.stored fresh
    fits = rows_fit s.setup s.starts s.reports r d m.stored fresh h.sound.sized rows_ok h.stored-long told.1.1.1

    abbrev verdict : Judged
    verdict = responded rows s.setup.n r s.setup.room s.view.0 s.commit.0 m.runs.log m.stored fresh

    judged-kept : (j : Judged) → verdict ≡ j → Collects (by_response j s rows r d.op fresh m.runs m.stored)
    unfolding by_response recovered_by
    judged-kept Wait e =
        record {
          held = moves here (with_reports s rows) refl refl refl rows_ok;
          acks-long = h.acks-long;
          stored-long = kept-length s.setup r d.op fresh m.stored told.0 told.1.0 told.1.1.1 h.stored-long;
        }
    judged-kept Refuse e = record { held = here; acks-long = h.acks-long; stored-long = h.stored-long }
    judged-kept (Begin b g) e =
        let f = response-lies rows s.setup.n r s.setup.room s.view.0 s.commit.0 m.runs.log m.stored fresh b g e fits in
        let k = response-keeps b g rows s.setup.n r s.setup.room s.commit.0 m.runs.log m.stored fresh s.view.0 e in
        record {
          held = settled-held g (installed-held b r m.stored fresh (back_in s b) here f refl refl k.1 (none-gathered s.setup)) k.0;
          acks-long = h.acks-long;
          stored-long = h.stored-long;
        }

    collected-kept : Collects (collected_by s r d fresh m.runs m.stored)
    unfolding collected_by
    collected-kept = judged-kept verdict refl

  pub response-kept : (v : View) (x r : ℕ) (t : Option Progress) (part : List ℕ)
      → (r < s.setup.n)
      × (((response_of v t).op.0 ≤ s.setup.room)
      × (((response_of v t).commit.0 ≤ (response_of v t).op.0) × (32 * (response_of v t).op.0 ≤ length part)))
      → Collects (response_step s v x r t part m.runs m.stored)
  unfolding response_step
  response-kept v x r t part told =
      split Collects _ _ _
      (λ _. record { held = here; acks-long = h.acks-long; stored-long = h.stored-long })
      (λ _. collected-kept r (response_of v t) part (response-there v t) told)
