-- Recovery, RecoveryResponse and the tick of one that recovers give no replies. Assumes nothing.
use Rattle.std.specs.Prelude.{Option}
use mathlib.Core.Path.{◌≡◌, refl}
use mathlib.Core.List.{List}
use Prim.Native.Nat.{ℕ}
use Rattle.numbers.specs.declared.View.{View}
use Rattle.numbers.specs.declared.Op.{Op}
use Rattle.numbers.proofs.WordLaws.{split}
use Rattle.frames.specs.declared.Progress.{Progress}
use Rattle.state.specs.declared.Replica.{Replica}
use Rattle.state.specs.declared.Reports.{Reports}
use Rattle.reports.specs.declared.Judged.{Judged}
use Rattle.reports.specs.declared.Judged.TheVariants.{Wait, Refuse, Begin}
use Rattle.steps.proofs.SilentSteps.{Mute}
use Rattle.view_change.proofs.ChangeReplies.{started-mute}
use Rattle.book.specs.Memory.{Runs}
use Rattle.recovery.specs.Recovery.{Collected, recovering_tick, full_answer, bare_answer, recovery_step, recovered_by, by_response, collected_by, response_step}
use Rattle.state.specs.Answers.{replies_written}

module _ (s : Replica) where
  -- ---- messages alone

  pub recovering-mute : (out : List ℕ) → Mute (recovering_tick s out)
  unfolding recovering_tick
  recovering-mute out = split Mute _ _ _ (λ _. refl) (λ _. refl)

  pub recovery-mute : (r x : ℕ) (v : View) (log out : List ℕ) → Mute (recovery_step s r x v log out)
  unfolding recovery_step full_answer bare_answer
  recovery-mute r x v log out =
      split Mute _ _ _ (λ _. started-mute s s v out) λ _.
      split Mute _ _ _ (λ _. refl) λ _.
      split Mute _ _ _ (λ _. split Mute _ _ _ (λ _. refl) (λ _. refl)) λ _.
      split Mute _ _ _ (λ _. refl) (λ _. refl)

  -- ---- RecoveryResponse

  abbrev MuteCollected : Collected → Type 0
  MuteCollected d = replies_written d.answer ≡ 0

  judged-mute : (rows : Reports) (r : ℕ) (o : Op) (fresh : List ℕ) (x : Runs) (stored : List ℕ) (j : Judged)
      → MuteCollected (by_response j s rows r o fresh x stored)
  unfolding by_response recovered_by
  judged-mute rows r o fresh x stored Wait = refl
  judged-mute rows r o fresh x stored Refuse = refl
  judged-mute rows r o fresh x stored (Begin b g) = refl

  pub response-mute : (v : View) (x r : ℕ) (t : Option Progress) (part : List ℕ) (y : Runs) (stored : List ℕ)
      → (replies_written (response_step s v x r t part y stored).answer) ≡ 0
  unfolding response_step collected_by
  response-mute v x r t part y stored = split MuteCollected _ _ _ (λ _. refl) (λ _. judged-mute _ r _ part y stored _)
