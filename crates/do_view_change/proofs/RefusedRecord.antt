-- A refused DoViewChange leaves the state and every lent byte as they were; so does our own, where it is refused. Assumes nothing.
use Prim.Native.Nat.{ℕ}
use mathlib.Core.Path.{refl}
use mathlib.Core.Bool.{Bool, true, false}
use mathlib.Core.List.{List}
use Rattle.numbers.specs.declared.View.{View}
use Rattle.numbers.specs.declared.Op.{Op}
use Rattle.numbers.proofs.WordLaws.{split}
use Rattle.state.specs.declared.Replica.{Replica}
use Rattle.state.specs.declared.Report.{Report}
use Rattle.state.specs.declared.Reports.{Reports}
use Rattle.do_view_change.specs.Begin.{begun_in, begin_step}
use Rattle.do_view_change.specs.Record.{kept_by, started_by, by_decision, record_step, told_primary, send_step, do_view_change_step}
use Rattle.book.specs.Memory.{Memory}
use Rattle.do_view_change.specs.declared.Decision.{Decision}
use Rattle.do_view_change.specs.declared.Decision.TheVariants.{Keep, No, Start}
use Rattle.steps.proofs.RefusedSteps.{Untouched, Speaks, done, refused}
use Rattle.view_change.proofs.RefusedChange.{sent-start-view-untouched}
use Rattle.frames.specs.declared.Refusal.TheVariants.{NoRoomForMessages}

module _ (s : Replica) (m : Memory) where
  -- ---- record_do_view_change and send_do_view_change, from state t

  decision-untouched : (t : Replica) (rows : Reports) (r : ℕ) (o : Op) (first : Bool) (fresh : List ℕ) (z : Decision)
      → Untouched s m (by_decision z s t rows r o first fresh m)
  unfolding by_decision kept_by started_by begin_step begun_in
  decision-untouched t rows r o first fresh (No k) = refused s m k
  decision-untouched t rows r o first fresh Keep = done s m refl
  decision-untouched t rows r o first fresh (Start b g) = done s m refl

  record-untouched : (t : Replica) (r : ℕ) (d : Report) (first : Bool) (fresh : List ℕ) → Untouched s m (record_step s t r d first fresh m)
  unfolding record_step
  record-untouched t r d first fresh = decision-untouched t _ r d.op first fresh _

  pub send-untouched : (t : Replica) (first : Bool) → Untouched s m (send_step s t first m)
  unfolding send_step told_primary
  send-untouched t first =
      split (Untouched s m) _ _ _ (λ _. record-untouched t _ _ first m.runs.log) λ _.
      split (Speaks s m) _ _ _ (λ _. refused s m NoRoomForMessages) (λ _. done s m refl)

  -- ---- DoViewChange

  pub do-view-change-untouched : (v : View) (r : ℕ) (l : View) (o c : Op) (part : List ℕ) → Untouched s m (do_view_change_step s v r l o c part m)
  unfolding do_view_change_step
  do-view-change-untouched v r l o c part =
      split (Untouched s m) _ _ _ (λ _. done s m refl) λ _.
      split (Untouched s m) _ _ _ (λ _. done s m refl) λ _.
      split (Untouched s m) _ _ _ (λ _. record-untouched _ r _ true part) λ _.
      split (Untouched s m) _ _ _ (λ _. sent-start-view-untouched s m r m.runs.log) λ _.
      record-untouched s r _ false part
