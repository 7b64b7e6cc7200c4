-- What a Request, a PrepareOk, a Prepare or Commit of its view, and a Recovery of no later view leave of the state of a Normal replica: all but status, op and commit
-- number, takings and whether the primary was heard.
--     request-onward, prepare-onward, prepare-ok-onward, commit-onward, recovery-onward
-- Assumes nothing.
use mathlib.Core.Path.{◌≡◌, refl}
use mathlib.Core.Bool.{true, false≢true}
use mathlib.Core.List.{List}
use Prim.Native.Nat.{ℕ, ◌≤◌}
use native.Mathlib.Omega.{arith}
use borrow.Author.Tests.{ltb-true}
use Rattle.numbers.specs.declared.View.{View}
use Rattle.numbers.specs.declared.Op.{Op}
use Rattle.numbers.proofs.WordLaws.{split}
use Rattle.entries.specs.declared.Entry.{Entry}
use Rattle.frames.specs.declared.Status.{Status}
use Rattle.frames.specs.declared.Status.TheVariants.{Normal, StateTransfer, ViewChange, Recovering}
use Rattle.client_table.specs.declared.Latest.{Latest}
use Rattle.state.specs.Statuses.{is_normal, is_changing}
use Rattle.state.specs.declared.Replica.{Replica}
use Rattle.state_bytes.specs.Layout.{Onward}
use Rattle.book.specs.Memory.{Runs, Memory}
use Rattle.steps.specs.Steps.{Spoke, Left, accept_of, asked_for_state, transferred, deferred, committed_and_acked}
use Rattle.steps.specs.declared.Accept.{Accept}
use Rattle.steps.specs.declared.Accept.TheVariants.{Hear, Take}
use Rattle.normal.specs.Request as Request
use Rattle.normal.specs.Request.{request_step}
use Rattle.normal.specs.Prepare as Prepare
use Rattle.normal.specs.Prepare.{appended_by, taken_prepare, prepare_step}
use Rattle.normal.specs.PrepareOk as PrepareOk
use Rattle.normal.specs.PrepareOk.{Counted, prepare_ok_step}
use Rattle.normal.specs.Commit.{taken_commit, commit_step}
use Rattle.normal.specs.declared.prepare.Prepared.{Prepared}
use Rattle.normal.specs.declared.prepare.PrepareVerdict.{PrepareVerdict}
use Rattle.normal.specs.declared.prepare.PrepareVerdict.TheVariants.{Transfer, Again, Refuse, Append}
use Rattle.normal.specs.declared.prepare_ok.Count.{Count}
use Rattle.normal.specs.declared.prepare_ok.Count.TheVariants as Counts
use Rattle.normal.specs.declared.request.RequestVerdict.{RequestVerdict}
use Rattle.normal.specs.declared.request.RequestVerdict.TheVariants as Calls
use Rattle.recovery.specs.Recovery.{full_answer, bare_answer, recovery_step}

-- a Normal replica isn't in ViewChange
not-changing : (t : Status) → is_normal t ≡ true → is_changing t ≡ true → ⊥
unfolding is_normal is_changing
not-changing Normal n c = false≢true c
not-changing StateTransfer n c = false≢true n
not-changing ViewChange n c = false≢true n
not-changing Recovering n c = false≢true n

module _ (s : Replica) where
  -- ---- what the steps share

  abbrev Speaks : Spoke → Type 0
  Speaks d = Onward s d.answer.state

  abbrev Leaves : Left → Type 0
  Leaves d = Onward s d.answer.state

  transferred-onward : (out : List ℕ) → Speaks (transferred s out)
  unfolding transferred asked_for_state
  transferred-onward out = split Speaks _ _ _ (λ _. refl) (λ _. refl)

  heard-onward : (v : View) (out : List ℕ) → Speaks (deferred Hear s v out)
  unfolding deferred
  heard-onward v out = refl

  took-onward : (v : View) (out : List ℕ) → Speaks (deferred Take s v out)
  unfolding deferred
  took-onward v out = refl

  -- of our view, in Normal: neither ignored nor a reason to catch up
  deferred-onward : is_normal s.status ≡ true → (v : View) → v.0 ≡ s.view.0 → (out : List ℕ) → Speaks (deferred (accept_of s v) s v out)
  unfolding accept_of
  deferred-onward n v e out =
      let Goes : Accept → Type 0 = λ a. Speaks (deferred a s v out) in
      split Goes _ _ _ (λ l. absurd (omega (arith, e, ltb-true v.0 s.view.0 l))) λ _.
      split Goes _ _ _ (λ l. absurd (omega (arith, e, ltb-true s.view.0 v.0 l))) λ _.
      split Goes _ _ _ (λ c. absurd (not-changing s.status n c)) λ _.
      split Goes _ _ _ (λ _. heard-onward v out) λ _.
      split Goes _ _ _ (λ _. heard-onward v out) (λ _. took-onward v out)

  -- ---- Request

  call-onward : (e : Entry) (k : RequestVerdict) (log acks out reps : List ℕ) → Onward s (Request.by_call k s e log acks out reps).answer.state
  unfolding Request.by_call Request.resent Request.accepted
  call-onward e Calls.Nothing log acks out reps = refl
  call-onward e (Calls.Resend o) log acks out reps = refl
  call-onward e (Calls.Refuse k) log acks out reps = refl
  call-onward e Calls.Append log acks out reps = refl

  pub request-onward : (e : Entry) (latest : Latest) (log acks out reps : List ℕ) → Onward s (request_step s e latest log acks out reps).answer.state
  unfolding request_step
  request-onward e latest log acks out reps = call-onward e _ log acks out reps

  -- ---- Prepare

  verdict-onward : (p : Prepared) (d : PrepareVerdict) (x : Runs) (out : List ℕ) → Leaves (Prepare.by_prepare_verdict d s p x out)
  unfolding Prepare.by_prepare_verdict appended_by committed_and_acked
  verdict-onward p Transfer x out = transferred-onward out
  verdict-onward p Again x out = split Leaves _ _ _ (λ _. refl) (λ _. refl)
  verdict-onward p (Refuse k) x out = refl
  verdict-onward p Append x out = split Leaves _ _ _ (λ _. refl) (λ _. split Leaves _ _ _ (λ _. refl) (λ _. refl))

  pub prepare-onward : is_normal s.status ≡ true → (v : View) → v.0 ≡ s.view.0 → (p : Prepared) (x : Runs) (out : List ℕ) → Leaves (prepare_step s v p x out)
  unfolding prepare_step taken_prepare
  prepare-onward n v e p x out = split Leaves _ _ _ (λ _. verdict-onward p _ x out) (λ _. deferred-onward n v e out)

  -- ---- PrepareOk

  abbrev Acks : Counted → Type 0
  Acks d = Onward s d.answer.state

  count-onward : (o : Op) (r : ℕ) (d : Count) (m : Memory) → Acks (PrepareOk.by_count d s o r m.runs.log m.runs.money m.acks m.reps)
  unfolding PrepareOk.by_count PrepareOk.committed_by
  count-onward o r Counts.Nothing m = refl
  count-onward o r Counts.Note m = refl
  count-onward o r (Counts.Refuse k) m = refl
  count-onward o r Counts.Commit m = refl

  pub prepare-ok-onward : (v : View) (o : Op) (r : ℕ) (m : Memory) → Acks (prepare_ok_step s v o r m.runs.log m.runs.money m.acks m.reps)
  unfolding prepare_ok_step
  prepare-ok-onward v o r m = split Acks _ _ _ (λ _. refl) (λ _. count-onward o r _ m)

  -- ---- Commit

  pub commit-onward : is_normal s.status ≡ true → (v : View) → v.0 ≡ s.view.0 → (c : Op) (x : Runs) (out : List ℕ) → Leaves (commit_step s v c x out)
  unfolding commit_step taken_commit
  commit-onward n v e c x out =
      split Leaves _ _ _ (λ _. split Leaves _ _ _ (λ _. transferred-onward out) (λ _. refl)) (λ _. deferred-onward n v e out)

  -- ---- Recovery

  full-onward : (r x : ℕ) (log out : List ℕ) → Speaks (full_answer s r x log out)
  unfolding full_answer
  full-onward r x log out = split Speaks _ _ _ (λ _. refl) (λ _. refl)

  bare-onward : (r x : ℕ) (out : List ℕ) → Speaks (bare_answer s r x out)
  unfolding bare_answer
  bare-onward r x out = split Speaks _ _ _ (λ _. refl) (λ _. refl)

  pub recovery-onward : (r x : ℕ) (v : View) → v.0 ≤ s.view.0 → (log out : List ℕ) → Speaks (recovery_step s r x v log out)
  unfolding recovery_step
  recovery-onward r x v h log out =
      split Speaks _ _ _ (λ l. absurd (omega (arith, h, ltb-true s.view.0 v.0 l))) λ _.
      split Speaks _ _ _ (λ _. refl) λ _.
      split Speaks _ _ _ (λ _. full-onward r x log out) (λ _. bare-onward r x out)
