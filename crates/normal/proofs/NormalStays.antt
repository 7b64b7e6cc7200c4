-- Request, Prepare, PrepareOk and Commit keep what refusal 1 asks. Assumes nothing.
use mathlib.Core.Path.{◌≡◌, refl, ◌∙◌}
use mathlib.Core.Bool.{false}
use mathlib.Core.List.{List}
use Prim.Native.Nat.{ℕ, ◌-◌, ◌<◌}
use native.Mathlib.Omega.{arith}
use borrow.Author.Tests.{ltb-false}
use lib.ListN.{length, get_or, replicate, length-set, length-replicate}
use Rattle.numbers.specs.declared.View.{View}
use Rattle.numbers.specs.declared.Op.{Op}
use Rattle.numbers.proofs.WordLaws.{split}
use Rattle.numbers.proofs.RunLaws.{length_over}
use Rattle.entries.specs.declared.Entry.{Entry}
use Rattle.client_table.specs.declared.Latest.{Latest}
use Rattle.state.specs.State.{heard_by, with_log}
use Rattle.state.specs.declared.Replica.{Replica}
use Rattle.steps.specs.Steps.{Left, accept_of, settled}
use Rattle.book.specs.Memory.{Runs, Memory}
use Rattle.normal.specs.Request as Request
use Rattle.normal.specs.Request.{request_step, next_op, of_served}
use Rattle.normal.specs.Prepare as Prepare
use Rattle.normal.specs.Prepare.{appended_by, with_entry, lower_of, prepare_step}
use Rattle.normal.specs.PrepareOk as PrepareOk
use Rattle.normal.specs.PrepareOk.{Counted, prepare_ok_step, of_counted}
use Rattle.normal.specs.Commit.{taken_commit, commit_step}
use Rattle.normal.specs.declared.prepare.Prepared.{Prepared}
use Rattle.normal.specs.declared.prepare.PrepareVerdict.{PrepareVerdict}
use Rattle.normal.specs.declared.prepare.PrepareVerdict.TheVariants.{Transfer, Again, Refuse, Append}
use Rattle.normal.specs.declared.prepare_ok.Count.{Count}
use Rattle.normal.specs.declared.prepare_ok.Count.TheVariants as Counts
use Rattle.normal.specs.declared.request.RequestVerdict.{RequestVerdict}
use Rattle.normal.specs.declared.request.RequestVerdict.TheVariants as Calls
use Rattle.normal.proofs.PrepareLaws.{room-left, sound-next}
use Rattle.normal.proofs.PrepareOkLaws.{ready}
use Rattle.normal.proofs.RequestLaws.{append-fits}
use Rattle.steps.specs.Recorded.{Gathering}
use Rattle.steps.proofs.Held.{Held, Kept, as_it_was, other, back, heard-held, transferred-held, deferred-held, settled-held, acked-held}

module _ (s : Replica) (x : Runs) (h : Held s.setup s x) (out : List ℕ) where
  abbrev pub HeldBy : Left → Type 0
  HeldBy d = Held s.setup d.answer.state d.runs

  -- ---- Commit

  pub commit-held : (v : View) (c : Op) → HeldBy (commit_step s v c x out)
  unfolding commit_step taken_commit
  commit-held v c =
      split HeldBy _ _ _
      (λ _.
      split HeldBy _ _ _ (λ _. transferred-held h out)
      (λ l. settled-held c (heard-held h) (ltb-false s.op.0 c.0 l)))
      (λ _. deferred-held h (accept_of s v) v out)

  -- ---- Prepare

  pub appended-held : (p : Prepared) → s.op.0 < s.setup.room → Held s.setup (with_log (heard_by s) (next_op s) s.commit) (with_entry s p x)
  appended-held p l =
      record {
        sound = sound-next s p.entry x.log x.money.results x.money.totals h.sound l (heard_by s) _ _ refl refl refl;
        setup = refl;
        reports = h.reports;
      }

  verdict-held : (p : Prepared) (d : PrepareVerdict) → d ≡ Prepare.prepare_verdict s p → HeldBy (Prepare.by_prepare_verdict d s p x out)
  unfolding Prepare.by_prepare_verdict appended_by
  verdict-held p Transfer e = transferred-held h out
  verdict-held p Again e = acked-held (lower_of p.commit s.op) false out h (heard-held h) (omega arith)
  verdict-held p (Refuse k) e = h
  verdict-held p Append e =
      split HeldBy _ _ _ (λ _. h)
      (λ _. acked-held (lower_of p.commit (next_op s)) false out h (appended-held p (room-left s p Append e refl)) (omega arith))

  pub prepare-held : (v : View) (p : Prepared) → HeldBy (prepare_step s v p x out)
  unfolding prepare_step Prepare.taken_prepare
  prepare-held v p =
      split HeldBy _ _ _ (λ _. verdict-held p (Prepare.prepare_verdict s p) refl) (λ _. deferred-held h (accept_of s v) v out)

module _ (s : Replica) (m : Memory) (h : Gathering s m) where
  -- ---- Request

  call_kept : (e : Entry) (latest : Latest) (k : RequestVerdict) → Request.request_verdict s e latest (length m.out) (length m.reps) ≡ k
      → Kept s.setup (of_served m (Request.by_call k s e m.runs.log m.acks m.out m.reps))
  unfolding Request.by_call Request.resent Request.accepted
  call_kept e latest Calls.Nothing q = record { held = as_it_was h; acks-long = h.acks-long; stored-long = h.stored-long }
  call_kept e latest (Calls.Resend o) q = record { held = as_it_was h; acks-long = h.acks-long; stored-long = h.stored-long }
  call_kept e latest (Calls.Refuse k) q = record { held = as_it_was h; acks-long = h.acks-long; stored-long = h.stored-long }
  call_kept e latest Calls.Append q =
      let p : Prepared = record { op = next_op s; commit = s.commit; entry = e; latest = latest } in
      let l = (append-fits s (length m.out) (length m.reps) e latest q).0 in
      let g = as_it_was h in
      record {
        held =
            other (back g (appended-held s m.runs g m.out p l)) (with_log s (next_op s) s.commit) refl
            (omega (arith, h.sound.commit-le)) (omega (arith, l)) h.reports;
        acks-long = length-set m.acks s.op.0 _ ∙ h.acks-long;
        stored-long = h.stored-long;
      }

  pub request-kept : (e : Entry) (latest : Latest) → Kept s.setup (of_served m (request_step s e latest m.runs.log m.acks m.out m.reps))
  unfolding request_step
  request-kept e latest = call_kept e latest (Request.request_verdict s e latest (length m.out) (length m.reps)) refl

  -- ---- PrepareOk

  count_kept : (o : Op) (r : ℕ) (d : Count) → d ≡ PrepareOk.ack_verdict s o (get_or m.acks (o.0 - 1) 0) r (length m.reps)
      → Kept s.setup (of_counted m (PrepareOk.by_count d s o r m.runs.log m.runs.money m.acks m.reps))
  unfolding PrepareOk.by_count PrepareOk.committed_by settled
  count_kept o r Counts.Nothing e = record { held = as_it_was h; acks-long = h.acks-long; stored-long = h.stored-long }
  count_kept o r Counts.Note e =
      record { held = as_it_was h; acks-long = length-set m.acks (o.0 - 1) _ ∙ h.acks-long; stored-long = h.stored-long }
  count_kept o r (Counts.Refuse k) e = record { held = as_it_was h; acks-long = h.acks-long; stored-long = h.stored-long }
  count_kept o r Counts.Commit e =
      let l = (ready s o (get_or m.acks (o.0 - 1) 0) r (length m.reps) Counts.Commit e refl).0 in
      let w : List ℕ = replicate o.0 0 in
      let k : length w ≡ o.0 = length-replicate o.0 0 in
      record {
        held = settled-held o (as_it_was h) l;
        acks-long = length_over w m.acks (omega (arith, k, l, h.sound.op_le, h.acks-long)) ∙ h.acks-long;
        stored-long = h.stored-long;
      }

  pub prepare-ok-kept : (v : View) (o : Op) (r : ℕ)
      → Kept s.setup (of_counted m (prepare_ok_step s v o r m.runs.log m.runs.money m.acks m.reps))
  unfolding prepare_ok_step
  prepare-ok-kept v o r =
      split (λ (d : Counted). Kept s.setup (of_counted m d)) _ _ _
      (λ _. record { held = as_it_was h; acks-long = h.acks-long; stored-long = h.stored-long })
      (λ _. count_kept o r (PrepareOk.ack_verdict s o (get_or m.acks (o.0 - 1) 0) r (length m.reps)) refl)
