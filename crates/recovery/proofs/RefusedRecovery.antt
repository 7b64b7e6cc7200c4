-- A refused Recovery or RecoveryResponse leaves the state and every lent byte as they were; so does the refused tick of one that recovers.
-- Assumes nothing.
use Rattle.std.specs.Prelude.{Option}
use Prim.Native.Nat.{ℕ}
use mathlib.Core.Path.{refl}
use mathlib.Core.List.{List}
use Rattle.numbers.specs.declared.View.{View}
use Rattle.numbers.specs.declared.Op.{Op}
use Rattle.numbers.proofs.WordLaws.{split}
use Rattle.frames.specs.declared.Progress.{Progress}
use Rattle.state.specs.declared.Replica.{Replica}
use Rattle.state.specs.declared.Reports.{Reports}
use Rattle.reports.specs.declared.Judged.{Judged}
use Rattle.reports.specs.declared.Judged.TheVariants.{Wait, Refuse, Begin}
use Rattle.book.specs.Memory.{Memory}
use Rattle.recovery.specs.Recovery.{Collected, recovering_tick, full_answer, bare_answer, recovery_step, recovered_by, by_response, collected_by, response_step, of_collected}
use Rattle.steps.proofs.RefusedSteps.{Untouched, Speaks, done, refused}
use Rattle.view_change.proofs.RefusedChange.{started-untouched}
use Rattle.frames.specs.declared.Refusal.TheVariants.{NoRoomForMessages, Uncommits}

module _ (s : Replica) (m : Memory) where
  pub recovering-untouched : Speaks s m (recovering_tick s m.out)
  unfolding recovering_tick
  recovering-untouched = split (Speaks s m) _ _ _ (λ _. refused s m NoRoomForMessages) (λ _. done s m refl)

  -- ---- Recovery

  pub recovery-untouched : (r x : ℕ) (v : View) → Speaks s m (recovery_step s r x v m.runs.log m.out)
  unfolding recovery_step full_answer bare_answer
  recovery-untouched r x v =
      split (Speaks s m) _ _ _ (λ _. started-untouched s m s v) λ _.
      split (Speaks s m) _ _ _ (λ _. done s m refl) λ _.
      split (Speaks s m) _ _ _ (λ _. split (Speaks s m) _ _ _ (λ _. refused s m NoRoomForMessages) (λ _. done s m refl)) λ _.
      split (Speaks s m) _ _ _ (λ _. refused s m NoRoomForMessages) (λ _. done s m refl)

  -- ---- RecoveryResponse

  abbrev Collects : Collected → Type 0
  Collects d = Untouched s m (of_collected m d)

  judged-untouched : (rows : Reports) (r : ℕ) (o : Op) (fresh : List ℕ) (j : Judged) → Collects (by_response j s rows r o fresh m.runs m.stored)
  unfolding by_response recovered_by
  judged-untouched rows r o fresh Wait = done s m refl
  judged-untouched rows r o fresh Refuse = refused s m Uncommits
  judged-untouched rows r o fresh (Begin b g) = done s m refl

  pub response-untouched : (v : View) (x r : ℕ) (t : Option Progress) (part : List ℕ)
      → Collects (response_step s v x r t part m.runs m.stored)
  unfolding response_step collected_by
  response-untouched v x r t part = split Collects _ _ _ (λ _. done s m refl) (λ _. judged-untouched _ r _ part _)
