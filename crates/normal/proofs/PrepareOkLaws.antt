-- The ways out of on_prepare_ok, on plain variables, as the code's tests and calls give them. Assumes nothing.
use mathlib.Core.Path.{◌≡◌, refl, sym, ap, ◌∙◌}
use mathlib.Core.Bool.{Bool, true, false, not, false≢true}
use mathlib.Core.List.{List}
use Prim.Native.Nat.{ℕ, ◌+◌, ◌-◌, ◌*◌, ◌≤◌, ◌<◌}
use native.Mathlib.Omega.{arith}
use lib.Dec.{ltb, eqb}
use lib.ListN.{length, get_or, replicate}
use borrow.Author.Tests.{lt-ltb, le-ltb, eq-eqb, ne_eqb, ltb-true, ltb-false, not-false}
use Rattle.numbers.specs.Words.{when◌then◌else◌}
use Rattle.numbers.specs.Numbers.{over}
use Rattle.numbers.specs.declared.View.{View}
use Rattle.numbers.specs.declared.Op.{Op}
use Rattle.numbers.proofs.WordLaws.{split}
use Rattle.entries.specs.Places.{entry_place, ack_place}
use Rattle.config.specs.Replicas.{bit, with_member, count_below, quorum_of}
use Rattle.config.proofs.SetupLaws.{sized}
use Rattle.book.specs.Runs.{replies}
use Rattle.book.specs.Memory.{Money, money, Runs, runs}
use Rattle.state.specs.State.{leads}
use Rattle.state.specs.Statuses.{is_normal}
use Rattle.state.specs.Answers.{completed, quiet}
use Rattle.state.specs.declared.Returned.{Returned}
use Rattle.state.specs.declared.Replica.{Replica}
use Rattle.steps.specs.Steps.{Sound, committed_to, settled}
use Rattle.steps.proofs.StepLaws.{commits-fit}
use Rattle.normal.specs.declared.prepare_ok.Count.{Count}
use Rattle.normal.specs.declared.prepare_ok.Count.TheVariants.{Nothing, Note, Refuse, Commit}
use Rattle.normal.specs.PrepareOk.{Counted, counted, listens, ack_verdict, committed_by, by_count, prepare_ok_step}
use Rattle.frames.specs.declared.Refusal.TheVariants.{PastLog, NoRoomForReplies}

-- hears
module _ (s : Replica) (v : View) (op : Op) where
  pub other-view : (v.0 ≡ s.view.0 → ⊥) → false ≡ listens s v op
  unfolding listens when◌then◌else◌
  other-view h = rw (ne_eqb v.0 s.view.0 h)

  module _ (h : v.0 ≡ s.view.0) where
    pub not-primary : not (leads s) ≡ true → false ≡ listens s v op
    unfolding listens when◌then◌else◌
    not-primary l = rw (eq-eqb v.0 s.view.0 h, l)

    pub not-normal : not (leads s) ≡ false → not (is_normal s.status) ≡ true → false ≡ listens s v op
    unfolding listens when◌then◌else◌
    not-normal l n = rw (eq-eqb v.0 s.view.0 h, l, n)

    pub last-test : not (leads s) ≡ false → not (is_normal s.status) ≡ false → ltb s.commit.0 op.0 ≡ listens s v op
    unfolding listens when◌then◌else◌
    last-test l n = rw (eq-eqb v.0 s.view.0 h, l, n)

  abbrev After : Bool → Type 0
  After b = b ≡ true → s.commit.0 < op.0

  never : After false
  never h = absurd (false≢true h)

  after-of : After (listens s v op)
  unfolding listens
  after-of =
      split After (not (eqb v.0 s.view.0)) false _ (λ _. never)
      (λ _. split After (not (leads s)) false _ (λ _. never)
      (λ _. split After (not (is_normal s.status)) false _ (λ _. never) (λ _. ltb-true s.commit.0 op.0)))

  -- an op that is looked at isn't committed
  pub after-commit : (b : Bool) → b ≡ listens s v op → not b ≡ false → s.commit.0 < op.0
  after-commit b p n = after-of (sym p ∙ not-false b n)

-- weigh
module _ (s : Replica) (op : Op) (held from room : ℕ) where
  pub no-row : held ≡ 0 → Nothing ≡ ack_verdict s op held from room
  unfolding ack_verdict when◌then◌else◌
  no-row h = rw (eq-eqb held 0 h)

  module _ (h : held ≡ 0 → ⊥) where
    pub known : eqb (bit held from) 1 ≡ true → Nothing ≡ ack_verdict s op held from room
    unfolding ack_verdict when◌then◌else◌
    known b = rw (ne_eqb held 0 h, b)

    -- w is the row with the sender in it, k its count, q the quorum
    module _ (w k q : ℕ) (b : eqb (bit held from) 1 ≡ false) (ew : w ≡ with_member held from) (ek : k ≡ count_below s.setup.n w)
        (eq : q ≡ quorum_of s.setup.n) where
      count-is : k ≡ count_below s.setup.n (with_member held from)
      count-is = ek ∙ ap (count_below s.setup.n) ew

      reached : k ≡ q → eqb (count_below s.setup.n (with_member held from)) (quorum_of s.setup.n) ≡ true
      reached e = eq-eqb (count_below s.setup.n (with_member held from)) (quorum_of s.setup.n) (sym count-is ∙ e ∙ eq)

      pub one_more : (k ≡ q → ⊥) → Note ≡ ack_verdict s op held from room
      unfolding ack_verdict when◌then◌else◌
      one_more d =
          rw (ne_eqb held 0 h, b, ne_eqb (count_below s.setup.n (with_member held from)) (quorum_of s.setup.n) (λ e. d (count-is ∙ e ∙ sym eq)))

      pub past-log : k ≡ q → s.op.0 < op.0 → Refuse PastLog ≡ ack_verdict s op held from room
      unfolding ack_verdict when◌then◌else◌
      past-log e l = rw (ne_eqb held 0 h, b, reached e, lt-ltb s.op.0 op.0 l)

      pub no-area : k ≡ q → op.0 ≤ s.op.0 → room < 36 * (op.0 - s.commit.0) → Refuse NoRoomForReplies ≡ ack_verdict s op held from room
      unfolding ack_verdict when◌then◌else◌
      no-area e l m = rw (ne_eqb held 0 h, b, reached e, le-ltb s.op.0 op.0 l, lt-ltb room (36 * (op.0 - s.commit.0)) m)

      pub fires : k ≡ q → op.0 ≤ s.op.0 → 36 * (op.0 - s.commit.0) ≤ room → Commit ≡ ack_verdict s op held from room
      unfolding ack_verdict when◌then◌else◌
      fires e l m = rw (ne_eqb held 0 h, b, reached e, le-ltb s.op.0 op.0 l, le-ltb room (36 * (op.0 - s.commit.0)) m)

-- what `Commit` says
abbrev commits : Count → Bool
commits Nothing = false
commits Note = false
commits (Refuse k) = false
commits Commit = true

module _ (s : Replica) (op : Op) (held from room : ℕ) where
  abbrev Ready : Count → Type 0
  Ready d = d ≡ Commit → (op.0 ≤ s.op.0) × (36 * (op.0 - s.commit.0) ≤ room)

  other : (d : Count) → commits d ≡ false → Ready d
  other d e h = absurd (false≢true (sym e ∙ ap commits h))

  ready_of : Ready (ack_verdict s op held from room)
  unfolding ack_verdict
  ready_of =
      split Ready (eqb held 0) Nothing _ (λ _. other Nothing refl)
      (λ _. split Ready (eqb (bit held from) 1) Nothing _ (λ _. other Nothing refl)
      (λ _. split Ready (not (eqb (count_below s.setup.n (with_member held from)) (quorum_of s.setup.n))) Note _ (λ _. other Note refl)
      (λ _. split Ready (ltb s.op.0 op.0) (Refuse PastLog) _ (λ _. other (Refuse PastLog) refl)
      (λ l. split Ready (ltb room (36 * (op.0 - s.commit.0))) (Refuse NoRoomForReplies) _ (λ _. other (Refuse NoRoomForReplies) refl)
      (λ m _. (ltb-false s.op.0 op.0 l, ltb-false room (36 * (op.0 - s.commit.0)) m))))))

  pub ready : (d : Count) → d ≡ ack_verdict s op held from room → d ≡ Commit → (op.0 ≤ s.op.0) × (36 * (op.0 - s.commit.0) ≤ room)
  ready d e h = ready_of (sym e ∙ h)

-- commit_with_replies
module _ (s : Replica) (op : Op) (log results totals : List ℕ) (h : Sound s (runs log results totals))
    (g : s.commit.0 < op.0) (l : op.0 ≤ s.op.0) where
  -- what write_replies asks; r is the length of the results after the commits, m the room for replies
  pub replies-fit : (r m : ℕ) → r ≡ length results → 36 * (op.0 - s.commit.0) ≤ m
      → (s.commit.0 + (op.0 - s.commit.0) ≤ 4096)
      × ((36 * (op.0 - s.commit.0) ≤ m)
      × ((9 * (s.commit.0 + (op.0 - s.commit.0)) ≤ r) × (entry_place (s.commit.0 + (op.0 - s.commit.0)) ≤ length log)))
  replies-fit r m e k =
      let f = commits-fit s op log results totals h l g in
      (f.0, (k, (rw e f.1.1.0, f.1.1.1)))

  -- what fill asks
  pub acks-fit : (acks : List ℕ) (n : ℕ) → n ≡ ack_place op.0 → length acks ≡ s.setup.room → n ≤ length acks
  acks-fit acks n p e = omega (arith, h.op_le)

module _ (s : Replica) (op : Op) (log results totals acks reps : List ℕ) where
  pub all-committed : (t : Replica) (a : Returned) (n : ℕ) (rs ts ks ps : List ℕ) → t ≡ committed_to s op (runs log results totals)
      → runs log rs ts ≡ settled s op (runs log results totals)
      → ps ≡ over (replies s.view log rs s.commit.0 (op.0 - s.commit.0)) reps → n ≡ ack_place op.0 → ks ≡ over (replicate n 0) acks
      → a ≡ completed t 0 (36 * (op.0 - s.commit.0)) false
      → counted a (money rs ts) ks ps ≡ committed_by s op log (money results totals) acks reps
  unfolding committed_by settled
  all-committed t a n rs ts ks ps p q e z f d =
      let m = ap (λ (x : Runs). x.money) q in
      let o = e ∙ ap (λ (x : Money). over (replies s.view log x.results s.commit.0 (op.0 - s.commit.0)) reps) m in
      let b = d ∙ ap (λ (u : Replica). completed u 0 (36 * (op.0 - s.commit.0)) false) p in
      let g = f ∙ ap (λ (k : ℕ). over (replicate k 0) acks) z in
      λ i. counted (b i) (m i) (g i) (o i)

-- what weigh asks of the sender
pub sender-small : (s : Replica) (x : Runs) (from : ℕ) → Sound s x → from < s.setup.n → from < 8
sender-small s x from h l = omega (arith, (sized s.setup h.sized).seven)

-- on_prepare_ok: one that isn't looked at, and one that is, by what it calls for
module _ (s : Replica) (v : View) (op : Op) (from : ℕ) (log : List ℕ) (x : Money) (acks reps : List ℕ) (b : Bool)
    (p : b ≡ listens s v op) where
  pub unheard : (a : Returned) → not b ≡ true → a ≡ quiet s → counted a x acks reps ≡ prepare_ok_step s v op from log x acks reps
  unfolding prepare_ok_step when◌then◌else◌
  unheard a n e = rw (← p, n, e)

  pub weighed : (i : ℕ) (d e : Count) (y : Counted) → i ≡ ack_place (op.0 - 1) → not b ≡ false → d ≡ ack_verdict s op (get_or acks i 0) from (length reps) → d ≡ e
      → y ≡ by_count e s op from log x acks reps → y ≡ prepare_ok_step s v op from log x acks reps
  unfolding prepare_ok_step when◌then◌else◌
  weighed i d e y h n q m z =
      let r = q ∙ ap (λ (k : ℕ). ack_verdict s op (get_or acks k 0) from (length reps)) h in
      rw (← p, n) (z ∙ ap (λ (k : Count). by_count k s op from log x acks reps) (sym m ∙ r))
