-- A refused Request, Prepare, PrepareOk or Commit leaves the state and every lent byte as they were; so does the refused tick of a Normal primary.
-- Assumes nothing.
use Prim.Native.Nat.{ℕ, ◌-◌}
use mathlib.Core.Path.{refl}
use lib.ListN.{length, get_or}
use Rattle.numbers.specs.declared.View.{View}
use Rattle.numbers.specs.declared.Op.{Op}
use Rattle.numbers.proofs.WordLaws.{split}
use Rattle.entries.specs.declared.Entry.{Entry}
use Rattle.client_table.specs.declared.Latest.{Latest}
use Rattle.state.specs.declared.Replica.{Replica}
use Rattle.steps.specs.Steps.{accept_of}
use Rattle.normal.specs.Request as Request
use Rattle.normal.specs.Request.{request_step, of_served}
use Rattle.normal.specs.Prepare as Prepare
use Rattle.normal.specs.Prepare.{appended_by, taken_prepare, prepare_step}
use Rattle.normal.specs.PrepareOk as PrepareOk
use Rattle.normal.specs.PrepareOk.{Counted, prepare_ok_step, of_counted}
use Rattle.normal.specs.Commit.{taken_commit, commit_step}
use Rattle.normal.specs.Tick.{primary_tick}
use Rattle.normal.specs.declared.prepare.Prepared.{Prepared}
use Rattle.normal.specs.declared.prepare.PrepareVerdict.{PrepareVerdict}
use Rattle.normal.specs.declared.prepare.PrepareVerdict.TheVariants.{Transfer, Again, Refuse, Append}
use Rattle.normal.specs.declared.prepare_ok.Count.{Count}
use Rattle.normal.specs.declared.prepare_ok.Count.TheVariants as Counts
use Rattle.normal.specs.declared.request.RequestVerdict.{RequestVerdict}
use Rattle.normal.specs.declared.request.RequestVerdict.TheVariants as Calls
use Rattle.book.specs.Memory.{Memory}
use Rattle.steps.proofs.RefusedSteps.{Untouched, Speaks, Leaves, done, refused, acked-done, transferred-untouched, deferred-untouched, acked-untouched}
use Rattle.frames.specs.declared.Refusal.TheVariants.{NoRoomForMessages}

module _ (s : Replica) (m : Memory) where
  -- ---- Request

  call-untouched : (e : Entry) (k : RequestVerdict)
      → Untouched s m (of_served m (Request.by_call k s e m.runs.log m.acks m.out m.reps))
  unfolding Request.by_call Request.resent Request.accepted
  call-untouched e Calls.Nothing = done s m refl
  call-untouched e (Calls.Resend o) = done s m refl
  call-untouched e (Calls.Refuse k) = refused s m k
  call-untouched e Calls.Append = done s m refl

  pub request-untouched : (e : Entry) (latest : Latest)
      → Untouched s m (of_served m (request_step s e latest m.runs.log m.acks m.out m.reps))
  unfolding request_step
  request-untouched e latest = call-untouched e (Request.request_verdict s e latest (length m.out) (length m.reps))

  -- ---- Prepare

  verdict-untouched : (p : Prepared) (d : PrepareVerdict) → Leaves s m (Prepare.by_prepare_verdict d s p m.runs m.out)
  unfolding Prepare.by_prepare_verdict appended_by
  verdict-untouched p Transfer = transferred-untouched s m
  verdict-untouched p Again = acked-untouched s m _ _ _
  verdict-untouched p (Refuse k) = refused s m k
  verdict-untouched p Append = split (Leaves s m) _ _ _ (λ _. refused s m NoRoomForMessages) (λ e. done s m (acked-done s _ _ _ _ m.out e))

  pub prepare-untouched : (v : View) (p : Prepared) → Leaves s m (prepare_step s v p m.runs m.out)
  unfolding prepare_step taken_prepare
  prepare-untouched v p =
      split (Leaves s m) _ _ _ (λ _. verdict-untouched p (Prepare.prepare_verdict s p)) (λ _. deferred-untouched s m (accept_of s v) v)

  -- ---- PrepareOk

  abbrev Answers : Counted → Type 0
  Answers d = Untouched s m (of_counted m d)

  count-untouched : (o : Op) (r : ℕ) (d : Count) → Answers (PrepareOk.by_count d s o r m.runs.log m.runs.money m.acks m.reps)
  unfolding PrepareOk.by_count PrepareOk.committed_by
  count-untouched o r Counts.Nothing = done s m refl
  count-untouched o r Counts.Note = done s m refl
  count-untouched o r (Counts.Refuse k) = refused s m k
  count-untouched o r Counts.Commit = done s m refl

  pub prepare-ok-untouched : (v : View) (o : Op) (r : ℕ)
      → Answers (prepare_ok_step s v o r m.runs.log m.runs.money m.acks m.reps)
  unfolding prepare_ok_step
  prepare-ok-untouched v o r =
      split Answers _ _ _ (λ _. done s m refl)
      (λ _. count-untouched o r (PrepareOk.ack_verdict s o (get_or m.acks (o.0 - 1) 0) r (length m.reps)))

  -- ---- Commit

  pub commit-untouched : (v : View) (c : Op) → Leaves s m (commit_step s v c m.runs m.out)
  unfolding commit_step taken_commit
  commit-untouched v c =
      split (Leaves s m) _ _ _ (λ _. split (Leaves s m) _ _ _ (λ _. transferred-untouched s m) (λ _. done s m refl))
      (λ _. deferred-untouched s m (accept_of s v) v)

  -- ---- the tick

  pub primary-tick-untouched : Speaks s m (primary_tick s m.runs.log m.out)
  unfolding primary_tick
  primary-tick-untouched = split (Speaks s m) _ _ _ (λ _. refused s m NoRoomForMessages) (λ _. done s m refl)
