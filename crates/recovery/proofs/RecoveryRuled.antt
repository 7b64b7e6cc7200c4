-- RecoveryResponse, Recovery and the tick in Recovering keep the entry rules. Assumes nothing.
use Rattle.std.specs.Prelude.{Option}
use Prim.Native.Nat.{ℕ, ◌*◌, ◌≤◌, ◌<◌}
use mathlib.Core.Path.{◌≡◌, refl, ◌∙◌}
use mathlib.Core.Bool.{true}
use mathlib.Core.List.{List}
use lib.ListN.{length, length-set}
use Rattle.numbers.specs.declared.View.{View}
use Rattle.numbers.proofs.WordLaws.{split}
use Rattle.entries.specs.Entries.{entries_ok}
use Rattle.frames.specs.declared.Progress.{Progress}
use Rattle.state.specs.declared.Replica.{Replica}
use Rattle.state.specs.declared.Report.{Report}
use Rattle.reports.specs.Rows.{with_report}
use Rattle.reports.specs.Judge.{responded}
use Rattle.reports.specs.declared.Judged.{Judged}
use Rattle.reports.specs.declared.Judged.TheVariants.{Wait, Refuse, Begin}
use Rattle.reports.proofs.WholeLaws.{Whole, over-ok}
use Rattle.steps.specs.Steps.{settled}
use Rattle.book.specs.Memory.{Memory}
use Rattle.recovery.specs.Recovery.{Collected, response_of, recovered_by, by_response, collected_by, response_step, of_collected, recovering_tick, full_answer, bare_answer, recovery_step}
use Rattle.steps.proofs.Ruled.{Has, RuledBy, cleared, still, wrote, SentRuled}
use Rattle.reports.proofs.ReportRuled.{kept-stored, response-whole}
use Rattle.view_change.proofs.ChangeRuled.{started-has}

module _ (s : Replica) (m : Memory) (h : Has s m) where
  module _ (r : ℕ) (d : Report) (part : List ℕ) (below : r < s.setup.n) (short : d.op.0 ≤ s.setup.room)
      (long : 32 * d.op.0 ≤ length part) (ok : entries_ok d.op.0 part ≡ true) where
    abbrev answer : Judged
    answer =
        responded (with_report s.reports r d) s.setup.n r s.setup.room s.view.0 s.commit.0 m.runs.log m.stored part

    answer-ruled : (j : Judged) → answer ≡ j
        → RuledBy (of_collected m (by_response j s (with_report s.reports r d) r d.op part m.runs m.stored))
    unfolding by_response recovered_by settled
    answer-ruled Wait e =
        record {
          log = h.log-ok;
          seven = length-set s.reports.rows r d ∙ h.seven;
          stored = kept-stored s.setup s.op.0 s.reports m.runs.log m.stored h r d part below short long ok;
        }
    answer-ruled Refuse e = still h
    answer-ruled (Begin b g) e =
        let w : Whole s.setup m.stored r part b.id b.report =
        response-whole s.setup s.op.0 s.reports m.runs.log m.stored h r d part below short long ok b g s.view.0
        s.commit.0 e in
        wrote (cleared h) (over-ok s.setup m.stored r part b w m.runs.log h.log-long)

    collected-ruled : RuledBy (of_collected m (collected_by s r d part m.runs m.stored))
    unfolding collected_by
    collected-ruled = answer-ruled answer refl

  pub response-ruled : (v : View) (x r : ℕ) (t : Option Progress) (part : List ℕ) → r < s.setup.n → (response_of v t).op.0 ≤ s.setup.room
      → 32 * (response_of v t).op.0 ≤ length part → entries_ok (response_of v t).op.0 part ≡ true
      → RuledBy (of_collected m (response_step s v x r t part m.runs m.stored))
  unfolding response_step
  response-ruled v x r t part below short long ok =
      split (λ (d : Collected). RuledBy (of_collected m d)) _ _ _ (λ _. still h)
      (λ _. collected-ruled r (response_of v t) part below short long ok)

-- ---- Recovery, and the tick

module _ (s : Replica) (m : Memory) (h : Has s m) where
  pub recovery-ruled : (r x : ℕ) (v : View) → SentRuled m (recovery_step s r x v m.runs.log m.out)
  unfolding recovery_step full_answer bare_answer
  recovery-ruled r x v =
      split (SentRuled m) _ _ _ (λ _. still (started-has s m h s v m.out (cleared h))) λ _.
      split (SentRuled m) _ _ _ (λ _. still h) λ _.
      split (SentRuled m) _ _ _ (λ _. split (SentRuled m) _ _ _ (λ _. still h) λ _. still h) λ _.
      split (SentRuled m) _ _ _ (λ _. still h) λ _. still h

  pub recovering-ruled : SentRuled m (recovering_tick s m.out)
  unfolding recovering_tick
  recovering-ruled = split (SentRuled m) _ _ _ (λ _. still h) λ _. still h
