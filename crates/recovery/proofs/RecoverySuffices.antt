-- Recovery, RecoveryResponse and the tick of one that recovers aren't refused for want of room in areas of `out_length` and `reps_length` bytes.
-- Assumes nothing.
use Rattle.std.specs.Prelude.{Option}
use mathlib.Core.Path.{◌≡◌}
use mathlib.Core.Bool.{true}
use mathlib.Core.List.{List}
use Prim.Native.Nat.{ℕ, ◌≤◌}
use native.Mathlib.Omega.{arith}
use Rattle.numbers.specs.declared.View.{View}
use Rattle.numbers.specs.declared.Op.{Op}
use Rattle.numbers.proofs.WordLaws.{split}
use Rattle.config.specs.Setup.{setup_ok}
use Rattle.config.proofs.SetupLaws.{sized}
use Rattle.frames.specs.declared.Progress.{Progress}
use Rattle.state.specs.declared.Replica.{Replica}
use Rattle.state.specs.declared.Reports.{Reports}
use Rattle.reports.specs.declared.Judged.{Judged}
use Rattle.reports.specs.declared.Judged.TheVariants.{Wait, Refuse, Begin}
use Rattle.steps.specs.Steps.{Spoke}
use Rattle.steps.specs.Areas.{out_length}
use Rattle.steps.proofs.AreaLaws.{Answers, one-fits, each_fits, later, done, no_room}
use Rattle.steps.proofs.StepsSuffice.{Spoken}
use Rattle.view_change.proofs.ChangeSuffices.{started-suffices}
use Rattle.book.specs.Memory.{Runs}
use Rattle.recovery.specs.Recovery.{Collected, recoveries_length, recovering_tick, full_length, full_answer, bare_answer, recovery_step, recovered_by, by_response, collected_by, response_step}
use Rattle.state.specs.Answers.{code_of}

module _ (s : Replica) (ok : setup_ok s.setup ≡ true) where
  pub recoveries-fit : recoveries_length s ≤ out_length s.setup
  recoveries-fit = omega (arith, each_fits s.setup ok 20 (omega (arith, (sized s.setup ok).room-low)))

  -- ---- messages alone; `room` is the length of the area for replies

  module _ (out : List ℕ) (room : ℕ) where
    abbrev SpokenHere : Spoke → Type 0
    SpokenHere = Spoken s.setup ok out room

    pub recovering-suffices : SpokenHere (recovering_tick s out)
    unfolding recovering_tick
    recovering-suffices = split SpokenHere _ _ _ (no_room (recoveries_length s) recoveries-fit) (λ _. done)

    pub recovery-suffices : s.op.0 ≤ s.setup.room → (r x : ℕ) (v : View) (log : List ℕ) → SpokenHere (recovery_step s r x v log out)
    unfolding recovery_step full_answer bare_answer
    recovery-suffices l r x v log =
        split SpokenHere _ _ _ (λ _. started-suffices out room s s ok v) λ _.
        split SpokenHere _ _ _ (λ _. done) λ _.
        split SpokenHere _ _ _
        (λ _.
        split SpokenHere _ _ _ (no_room (full_length s) (one-fits s.setup ok (full_length s) (omega (arith, l)))) (λ _. done)) λ _.
        split SpokenHere _ _ _ (no_room 21 (one-fits s.setup ok 21 (omega arith))) (λ _. done)

-- ---- RecoveryResponse; `out` and `reps` are the lengths of the two areas

module _ (s : Replica) (out reps : ℕ) where
  abbrev Collects : Collected → Type 0
  Collects d = Answers s.setup out reps (code_of d.answer)

  judged-suffices : (rows : Reports) (r : ℕ) (o : Op) (fresh : List ℕ) (x : Runs) (stored : List ℕ) (j : Judged)
      → Collects (by_response j s rows r o fresh x stored)
  unfolding by_response recovered_by
  judged-suffices rows r o fresh x stored Wait = done
  judged-suffices rows r o fresh x stored Refuse = later (omega arith) (omega arith)
  judged-suffices rows r o fresh x stored (Begin b g) = done

  pub response-suffices : (v : View) (x r : ℕ) (t : Option Progress) (part : List ℕ) (y : Runs) (stored : List ℕ)
      → Collects (response_step s v x r t part y stored)
  unfolding response_step collected_by
  response-suffices v x r t part y stored =
      split Collects _ _ _ (λ _. done) (λ _. judged-suffices _ r _ part y stored _)
