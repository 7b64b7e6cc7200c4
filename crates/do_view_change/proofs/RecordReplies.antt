-- What DoViewChange and our own DoViewChange leave in the area for replies: where a view begins, the Replies of what it commits, with outcomes of 1 to 6.
-- Assumes nothing.
use mathlib.Core.Path.{◌≡◌, refl}
use mathlib.Core.Bool.{Bool, true, false}
use mathlib.Core.List.{List}
use Prim.Native.Nat.{ℕ, ◌*◌, ◌≤◌, ◌<◌}
use native.Mathlib.Omega.{arith}
use lib.ListN.{length}
use Rattle.numbers.specs.declared.View.{View}
use Rattle.numbers.specs.declared.Op.{Op}
use Rattle.numbers.proofs.WordLaws.{split}
use Rattle.config.proofs.SetupLaws.{sized}
use Rattle.state.specs.State.{changing_to}
use Rattle.state.specs.Lengths.{stored_length}
use Rattle.state.specs.declared.Replica.{Replica}
use Rattle.state.specs.declared.Report.{Report}
use Rattle.reports.specs.Store.{chosen_over}
use Rattle.reports.specs.declared.Best.{Best}
use Rattle.reports.specs.declared.Judged.{Judged}
use Rattle.reports.specs.declared.Judged.TheVariants.{Wait, Refuse, Begin}
use Rattle.steps.specs.Steps.{Spoke}
use Rattle.steps.specs.Recorded.{Recorded, Gathering, only_sent}
use Rattle.steps.specs.Replying.{Replying}
use Rattle.state.proofs.SoundLaws.{none-gathered}
use Rattle.steps.proofs.Held.{Held, as_it_was, moves}
use Rattle.steps.proofs.ReplyLaws.{silent, committed-replies}
use Rattle.steps.proofs.SilentSteps.{still}
use Rattle.view_change.proofs.ChangeReplies.{sent-start-view-mute}
use Rattle.book.specs.Memory.{Memory}
use Rattle.do_view_change.specs.Begin.{owed, begun_in, begin_step}
use Rattle.do_view_change.specs.Record.{report_of, own_report, decided_by, decided, kept_by, started_by, by_decision, record_step, told_primary, send_step, do_view_change_step}
use Rattle.do_view_change.specs.declared.Decision.{Decision}
use Rattle.do_view_change.proofs.RecordSuffices.{rows, verdict, begin-short}
use Rattle.state.specs.Answers.{replies_written}

-- what a step leaves, with memory m
abbrev pub Answers : Memory → Recorded → Type 0
Answers m d = Replying m.reps d.memory.reps (replies_written d.answer)

-- ---- record_do_view_change, from state t; s is the state as it was

module _ (s t : Replica) (m : Memory) (ht : Held t.setup t m.runs) (stored-long : length m.stored ≡ stored_length t.setup) where
  -- replica r tells the report d, whose log is in `fresh`
  module _ (first : Bool) (r : ℕ) (d : Report) (fresh : List ℕ) (lt : r < t.setup.n) (there : d.there ≡ true)
      (op_le : d.op.0 ≤ t.setup.room) (commit-le : d.commit.0 ≤ d.op.0)
      (long : 32 * d.op.0 ≤ length fresh) where
    abbrev told : Judged
    told = verdict s t m ht stored-long first r d fresh lt there op_le commit-le long

    started-replies : (b : Best) (g : Op) → told ≡ Begin b g
        → Answers m (started_by t b.report.op g first (chosen_over b r t.setup.room m.stored fresh m.runs.log) m)
    unfolding started_by begin_step begun_in
    started-replies b g e =
        let k = begin-short s t m ht stored-long first r d fresh lt there op_le commit-le long b g e in
        let a = ht.sound in
        committed-replies t.setup.members (chosen_over b r t.setup.room m.stored fresh m.runs.log) t.commit.0 m.runs.money
        (omega (arith, a.totals-long)) t.view (owed t g) m.reps (omega (arith, k.1, a.commit-le, a.op_le, a.results-long))

    abbrev D : Decision → Type 0
    D z = Answers m (by_decision z s t (rows s t m ht stored-long first r d fresh lt there op_le commit-le long) r d.op first fresh m)

    judged-replies : (j : Judged) (a b : ℕ) → told ≡ j → D (decided_by j t first a b)
    unfolding decided_by by_decision kept_by
    judged-replies Wait a b e = split D _ _ _ (λ _. silent) (λ _. silent)
    judged-replies Refuse a b e = silent
    judged-replies (Begin best g) a b e =
        split D _ _ _ (λ _. silent) λ _.
        split D _ _ _ (λ _. silent) λ _. started-replies best g e

    pub recorded-replies : Answers m (record_step s t r d first fresh m)
    unfolding record_step decided
    recorded-replies = judged-replies told (length m.out) (length m.reps) refl

  -- ---- send_do_view_change

  pub send-replies : (first : Bool) → Answers m (send_step s t first m)
  unfolding send_step told_primary
  send-replies first =
      let a = ht.sound in
      split (Answers m) _ _ _
      (λ _. recorded-replies first t.setup.id (own_report t) m.runs.log (sized t.setup a.sized).own refl a.op_le a.commit-le (omega (arith, a.op_le, a.log-long)))
      (λ _. split (λ (d : Spoke). Answers m (only_sent m d)) _ _ _ (λ _. silent) (λ _. silent))

-- ---- DoViewChange

pub do-view-change-replies : (s : Replica) (m : Memory) → Gathering s m → (v : View) (r : ℕ) (l : View) (o c : Op) (part : List ℕ)
    → (r < s.setup.n) × ((o.0 ≤ s.setup.room) × ((c.0 ≤ o.0) × (32 * o.0 ≤ length part)))
    → Answers m (do_view_change_step s v r l o c part m)
unfolding do_view_change_step
do-view-change-replies s m h v r l o c part told =
    let here = as_it_was h in
    split (Answers m) _ _ _ (λ _. silent) λ _.
    split (Answers m) _ _ _ (λ _. silent) λ _.
    split (Answers m) _ _ _
    (λ _.
    recorded-replies s (changing_to s v) m (moves here (changing_to s v) refl refl refl (none-gathered s.setup)) h.stored-long true r
    (report_of l o c) part told.0 refl told.1.0 told.1.1.0 told.1.1.1)
    λ _.
    split (Answers m) _ _ _ (λ _. still _ (sent-start-view-mute s r m.runs.log m.out)) λ _.
    recorded-replies s s m here h.stored-long false r (report_of l o c) part told.0 refl told.1.0 told.1.1.0 told.1.1.1
