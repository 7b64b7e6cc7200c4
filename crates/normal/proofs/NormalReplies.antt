-- What Request, Prepare, PrepareOk, Commit and a Normal primary's tick leave in the area for replies: Replies with outcomes of 1 to 6, where the reply
-- that is handed in has one. Assumes nothing.
use mathlib.Core.Path.{◌≡◌, refl}
use mathlib.Core.Bool.{false}
use mathlib.Core.List.{List}
use Prim.Native.Nat.{ℕ, ◌-◌}
use native.Mathlib.Omega.{arith}
use borrow.Author.Tests.{ltb-false}
use lib.ListN.{length, get_or}
use Rattle.numbers.specs.declared.View.{View}
use Rattle.numbers.specs.declared.Op.{Op}
use Rattle.numbers.proofs.WordLaws.{split}
use Rattle.entries.specs.Places.{ack_place}
use Rattle.entries.specs.declared.Entry.{Entry}
use Rattle.client_table.specs.declared.Latest.{Latest}
use Rattle.client_table.specs.declared.Latest.TheVariants as Row
use Rattle.state.specs.declared.Replica.{Replica}
use Rattle.steps.specs.Steps.{Sound, accept_of}
use Rattle.steps.specs.Replying.{Replying}
use Rattle.steps.proofs.ReplyLaws.{silent, one-reply, committed-replies}
use Rattle.steps.proofs.SilentSteps.{Mute, MuteLeft, transferred-mute, deferred-mute, acked-mute}
use Rattle.book.specs.Memory.{Runs}
use Rattle.normal.specs.Telling.{ToldOk}
use Rattle.normal.specs.Request as Request
use Rattle.normal.specs.Request.{request_step}
use Rattle.normal.specs.Prepare as Prepare
use Rattle.normal.specs.Prepare.{appended_by, taken_prepare, prepare_step}
use Rattle.normal.specs.PrepareOk as PrepareOk
use Rattle.normal.specs.PrepareOk.{Counted, prepare_ok_step}
use Rattle.normal.specs.Commit.{taken_commit, commit_step}
use Rattle.normal.specs.Tick.{primary_tick}
use Rattle.normal.specs.declared.prepare.Prepared.{Prepared}
use Rattle.normal.specs.declared.prepare.PrepareVerdict.{PrepareVerdict}
use Rattle.normal.specs.declared.prepare.PrepareVerdict.TheVariants.{Transfer, Again, Refuse, Append}
use Rattle.normal.specs.declared.prepare_ok.Count.{Count}
use Rattle.normal.specs.declared.request.RequestVerdict.{RequestVerdict}
use Rattle.state.specs.Answers.{replies_written}

-- ---- Request

module _ (s : Replica) (e : Entry) (latest : Latest) (told : ToldOk latest) (log acks out reps : List ℕ) where
  abbrev Called : RequestVerdict → Type 0
  Called k = Replying reps (Request.by_call k s e log acks out reps).reps (replies_written (Request.by_call k s e log acks out reps).answer)

  new-replies : Called (Request.new_verdict s (length out))
  unfolding Request.new_verdict Request.by_call Request.accepted
  new-replies =
      split Called _ _ _ (λ _. silent) λ _.
      split Called _ _ _ (λ _. silent) λ _. silent

  known-replies : (l : Latest) → latest ≡ l → Called (Request.known_verdict e l (length reps))
  unfolding Request.known_verdict Request.again_verdict Request.by_call Request.resent
  known-replies Row.Nothing p = silent
  known-replies (Row.Waiting r) p = silent
  known-replies (Row.Answered r o) p =
      let q = told r o p in
      split Called _ _ _ (λ _. silent) λ _.
      split Called _ _ _ (λ _. silent) λ _. one-reply s.view e o reps q.0 q.1

  client-replies : Called (Request.client_verdict s e latest (length out) (length reps))
  unfolding Request.client_verdict
  client-replies =
      split Called _ _ _ (λ _. new-replies) (λ _. known-replies latest refl)

  pub request-replies : Replying reps (request_step s e latest log acks out reps).reps (replies_written (request_step s e latest log acks out reps).answer)
  unfolding request_step Request.request_verdict Request.by_call
  request-replies =
      split Called _ _ _ (λ _. silent) λ _.
      split Called _ _ _ (λ _. silent) λ _. client-replies

-- ---- PrepareOk

module _ (s : Replica) (x : Runs) (h : Sound s x) (o : Op) (r : ℕ) (acks reps : List ℕ) where
  abbrev Counts : Count → Type 0
  Counts d =
      Replying reps (PrepareOk.by_count d s o r x.log x.money acks reps).reps
      (replies_written (PrepareOk.by_count d s o r x.log x.money acks reps).answer)

  ack-replies : (held : ℕ) → Counts (PrepareOk.ack_verdict s o held r (length reps))
  unfolding PrepareOk.ack_verdict PrepareOk.by_count PrepareOk.committed_by
  ack-replies held =
      split Counts _ _ _ (λ _. silent) λ _.
      split Counts _ _ _ (λ _. silent) λ _.
      split Counts _ _ _ (λ _. silent) λ _.
      split Counts _ _ _ (λ _. silent) λ l.
      split Counts _ _ _ (λ _. silent) λ _.
      committed-replies s.setup.members x.log s.commit.0 x.money (omega (arith, h.totals-long)) s.view
      (o.0 - s.commit.0) reps (omega (arith, ltb-false s.op.0 o.0 l, h.commit-le, h.op_le, h.results-long))

  pub prepare-ok-replies : (v : View)
      → Replying reps (prepare_ok_step s v o r x.log x.money acks reps).reps (replies_written (prepare_ok_step s v o r x.log x.money acks reps).answer)
  unfolding prepare_ok_step
  prepare-ok-replies v =
      split (λ (d : Counted). Replying reps d.reps (replies_written d.answer)) _ _ _ (λ _. silent)
      (λ _. ack-replies (get_or acks (ack_place (o.0 - 1)) 0))

-- ---- Prepare, Commit, and a primary's tick give none

module _ (s : Replica) (x : Runs) (out : List ℕ) where
  verdict-mute : (p : Prepared) (d : PrepareVerdict) → MuteLeft (Prepare.by_prepare_verdict d s p x out)
  unfolding Prepare.by_prepare_verdict appended_by
  verdict-mute p Transfer = transferred-mute s out
  verdict-mute p Again = acked-mute s _ _ false x out
  verdict-mute p (Refuse k) = refl
  verdict-mute p Append = split MuteLeft _ _ _ (λ _. refl) (λ _. acked-mute s _ _ false _ out)

  pub prepare-mute : (v : View) (p : Prepared) → MuteLeft (prepare_step s v p x out)
  unfolding prepare_step taken_prepare
  prepare-mute v p = split MuteLeft _ _ _ (λ _. verdict-mute p _) (λ _. deferred-mute (accept_of s v) s v out)

  pub commit-mute : (v : View) (c : Op) → MuteLeft (commit_step s v c x out)
  unfolding commit_step taken_commit
  commit-mute v c =
      split MuteLeft _ _ _ (λ _. split MuteLeft _ _ _ (λ _. transferred-mute s out) (λ _. refl))
      (λ _. deferred-mute (accept_of s v) s v out)

pub primary-tick-mute : (s : Replica) (log out : List ℕ) → Mute (primary_tick s log out)
unfolding primary_tick
primary-tick-mute s log out = split Mute _ _ _ (λ _. refl) (λ _. refl)
