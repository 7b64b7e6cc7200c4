-- What the usual calls leave of the state.
--     usual-onward       a usual frame: all but status, op and commit number, takings and whether the primary was heard
--     leading-clocked    the tick of a Normal primary: all but the clock
-- Assumes nothing.
use Rattle.std.specs.Prelude.{Result, Ok, Err}
use mathlib.Core.Path.{◌≡◌, refl, sym, subst}
use mathlib.Core.Bool.{Bool, true, false≢true}
use mathlib.Core.List.{List}
use Prim.Native.Nat.{ℕ, ◌≤◌}
use borrow.Author.Tests.{eqb-true, leb-true, not-false}
use lib.Dec.{ltb, eqb}
use lib.ListN.{length}
use Rattle.numbers.specs.Numbers.{num}
use Rattle.numbers.specs.Words.{when◌then◌else◌}
use Rattle.frames.specs.Kinds.{kind_of}
use Rattle.numbers.proofs.WordLaws.{split}
use Rattle.frames.specs.Messages.{message_of}
use Rattle.frames.specs.declared.Message.{Message}
use Rattle.frames.specs.declared.Refusal.{Refusal}
use Rattle.frames.proofs.RefusalLaws.{passed}
use Rattle.client_table.specs.declared.Latest.{Latest}
use Rattle.state.specs.State.{leads}
use Rattle.state.specs.Statuses.{is_normal}
use Rattle.state.specs.declared.Returned.{Returned}
use Rattle.state.specs.declared.Replica.{Replica}
use Rattle.state_bytes.specs.Layout.{Onward, Clocked}
use Rattle.book.specs.Memory.{Memory}
use Rattle.steps.specs.Steps.{Spoke}
use Rattle.normal.specs.Tick.{primary_tick}
use Rattle.steps.specs.Recorded.{Recorded}
use Rattle.handlers.specs.Handlers.{handled, message_step, normal_tick, idle_step}
use Rattle.outside.specs.Calls.{checked_of}
use Rattle.outside.proofs.CallLaws.{passed_is}
use Rattle.replica.specs.Lent.{Lent, Called, lengths_of}
use Rattle.replica.specs.Calls.{latest_for, Tabled, followed_by, following, checked_call, message_call, idle_call}
use Rattle.usual.specs.Usual.{is_answered, usual_kind, is_usual, is_leading}
use Rattle.usual.proofs.NormalOnward.{request-onward, prepare-onward, prepare-ok-onward, commit-onward, recovery-onward}

-- ---- a frame

answered-view : (v : ℕ) (frame : List ℕ) → is_answered v frame ≡ true → num 4 16 frame ≤ v
unfolding is_answered
answered-view v frame =
    split (λ (b : Bool). b ≡ true → num 4 16 frame ≤ v) (ltb (length frame) 20) _ _ (λ _ e. absurd (false≢true e)) (λ _ e. leb-true _ _ e)

module _ (s : Replica) (n : is_normal s.status ≡ true) (latest : Latest) (frame : List ℕ) (m : Memory) where
  abbrev Handles : Recorded → Type 0
  Handles d = Onward s d.answer.state

  -- a Recovery
  by-answered : kind_of frame ≡ 10 → is_answered s.view.0 frame ≡ true → Handles (handled (message_of (kind_of frame) frame) s latest frame m)
  unfolding message_of handled when◌then◌else◌
  by-answered k e = rw k (recovery-onward s _ _ _ (answered-view s.view.0 frame e) m.runs.log m.out)

  -- by its kind
  kind-onward : usual_kind s.view.0 frame ≡ true → Handles (handled (message_of (kind_of frame) frame) s latest frame m)
  unfolding usual_kind message_of handled when◌then◌else◌
  kind-onward =
      let k = kind_of frame in
      let Goes : Bool → Type 0 = λ u. u ≡ true → Handles (handled (message_of k frame) s latest frame m) in
      split Goes (eqb k 1) _ _ (λ a _. rw a (request-onward s _ latest m.runs.log m.acks m.out m.reps)) λ a.
      split Goes (eqb k 2) _ _ (λ b e. rw (a, b) (prepare-onward s n _ (eqb-true _ _ e) _ m.runs m.out)) λ b.
      split Goes (eqb k 3) _ _ (λ c _. rw (a, b, c) (prepare-ok-onward s _ _ _ m)) λ c.
      split Goes (eqb k 4) _ _ (λ d e. rw (a, b, c, d) (commit-onward s n _ (eqb-true _ _ e) _ m.runs m.out)) λ d.
      split Goes (eqb k 10) _ _ (λ f. by-answered (eqb-true _ _ f)) λ _ e.
      absurd (false≢true e)

  step-onward : usual_kind s.view.0 frame ≡ true → Handles (message_step (message_of (kind_of frame) frame) s latest frame m)
  unfolding message_step
  step-onward u = split Handles _ _ _ (λ _. kind-onward u) (λ _. refl)

-- the table that follows leaves the answer
followed-answer : (s : Replica) (table : List ℕ) (d : Recorded) → (following s table d).answer ≡ d.answer
unfolding following followed_by
followed-answer s table d = split (λ (t : Tabled). t.answer ≡ d.answer) _ _ _ (λ _. refl) (λ _. refl)

module _ (s : Replica) (n : is_normal s.status ≡ true) (frame : List ℕ) (u : usual_kind s.view.0 frame ≡ true) (x : Lent) where
  abbrev Leaves : Called → Type 0
  Leaves d = Onward s d.answer.state

  checked-onward : (j : Result Message Refusal) → checked_of s (lengths_of x) frame ≡ j → Leaves (checked_call j s frame x)
  unfolding checked_call
  checked-onward (Err k) e = refl
  checked-onward (Ok m) e =
      let latest = latest_for m s.setup.room x.table in
      let q : m ≡ message_of (kind_of frame) frame = (passed s.setup frame m (passed_is s (lengths_of x) frame m e).1).said.message in
      subst (λ (a : Returned). Onward s a.state) (sym (followed-answer s x.table _))
      (subst (λ (z : Message). Onward s (message_step z s latest frame x.core).answer.state) (sym q)
      (step-onward s n latest frame x.core u))

  call-onward : Leaves (message_call s frame x)
  unfolding message_call
  call-onward = checked-onward (checked_of s (lengths_of x) frame) refl

pub usual-onward : (s : Replica) (frame : List ℕ) (x : Lent) → is_usual s frame ≡ true → Onward s (message_call s frame x).answer.state
unfolding is_usual
usual-onward s frame x =
    let Goes : Bool → Type 0 = λ b. b ≡ true → Onward s (message_call s frame x).answer.state in
    split Goes _ _ _ (λ _ e. absurd (false≢true e)) λ n.
    split Goes _ _ _ (λ _ e. absurd (false≢true e)) λ _ u.
    call-onward s (not-false (is_normal s.status) n) frame u x

-- ---- a tick

module _ (s : Replica) where
  primary-clocked : (log out : List ℕ) → Clocked s (primary_tick s log out).answer.state
  unfolding primary_tick
  primary-clocked log out = split (λ (d : Spoke). Clocked s d.answer.state) _ _ _ (λ _. refl) (λ _. refl)

  module _ (n : is_normal s.status ≡ true) (l : leads s ≡ true) where
    step-clocked : (m : Memory) → Clocked s (idle_step s m).answer.state
    unfolding idle_step normal_tick when◌then◌else◌
    step-clocked m = rw (n, l) (primary-clocked m.runs.log m.out)

    tick-clocked : (x : Lent) → Clocked s (idle_call s x).answer.state
    unfolding idle_call
    tick-clocked x =
        split (λ (d : Called). Clocked s d.answer.state) _ _ _ (λ _. refl) λ _.
        subst (λ (a : Returned). Clocked s a.state) (sym (followed-answer s x.table _)) (step-clocked x.core)

pub leading-clocked : (s : Replica) (x : Lent) → is_leading s ≡ true → Clocked s (idle_call s x).answer.state
unfolding is_leading
leading-clocked s x =
    let Goes : Bool → Type 0 = λ b. b ≡ true → Clocked s (idle_call s x).answer.state in
    split Goes _ _ _ (λ _ e. absurd (false≢true e)) λ _.
    split Goes _ _ _ (λ _ e. absurd (false≢true e)) λ n l.
    tick-clocked s (not-false (is_normal s.status) n) l x
