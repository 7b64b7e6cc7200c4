-- The ways out of each step, on plain variables, as the code's tests and calls give them. Assumes nothing.
use mathlib.Core.Path.{◌≡◌, refl, sym, ◌∙◌}
use mathlib.Core.Bool.{Bool, true, false, not}
use mathlib.Core.List.{List, []}
use Prim.Native.Nat.{ℕ, ◌+◌, ◌-◌, ◌*◌, max, ◌≤◌, ◌<◌}
use native.Mathlib.Omega.{arith}
use lib.ListN.{length}
use borrow.Author.Tests.{lt-ltb, le-ltb}
use Rattle.numbers.specs.Words.{when◌then◌else◌}
use Rattle.numbers.specs.Numbers.{big, over, Wrote}
use Rattle.numbers.specs.declared.View.{View}
use Rattle.numbers.specs.declared.Op.{Op}
use Rattle.entries.specs.Places.{entry_place}
use Rattle.entries.proofs.PlaceLaws.{place_is, place_mono}
use Rattle.config.specs.Setup.{primary_of}
use Rattle.config.proofs.SetupLaws.{sized}
use Rattle.frames.specs.declared.Message.TheVariants.{PrepareOk, GetState}
use Rattle.writers.specs.Writers.{header, encode}
use Rattle.book.specs.Runs.{money_committed, takings_committed}
use Rattle.book.specs.Memory.{money, Runs, runs}
use Rattle.state.specs.State.{leads, with_commit}
use Rattle.state.specs.Statuses.{is_normal, is_changing}
use Rattle.state.specs.Answers.{refusal, completed}
use Rattle.state.specs.declared.Returned.{Returned}
use Rattle.state.specs.declared.Replica.{Replica}
use Rattle.steps.specs.declared.Accept.{Accept}
use Rattle.steps.specs.declared.Accept.TheVariants.{Ignore, Hear, Join, Take}
use Rattle.steps.specs.Steps.{Sound, spoke, left, accept_changing, accept_of, committed_to, settled, asked_for_state, prepare_ok_of, committed_and_acked}
use Rattle.frames.specs.declared.Refusal.TheVariants.{NoRoomForMessages}

-- accept_from_primary
module _ (s : Replica) (v : View) where
  pub older : v.0 < s.view.0 → Ignore ≡ accept_of s v
  unfolding accept_of when◌then◌else◌
  older h = rw (lt-ltb v.0 s.view.0 h)

  pub newer : s.view.0 ≤ v.0 → s.view.0 < v.0 → Join ≡ accept_of s v
  unfolding accept_of when◌then◌else◌
  newer g h = rw (le-ltb v.0 s.view.0 g, lt-ltb s.view.0 v.0 h)

  module _ (g : s.view.0 ≤ v.0) (h : v.0 ≤ s.view.0) where
    pub changing : (a : Accept) → is_changing s.status ≡ true → a ≡ accept_changing s → a ≡ accept_of s v
    unfolding accept_of when◌then◌else◌
    changing a c p = rw (le-ltb v.0 s.view.0 g, le-ltb s.view.0 v.0 h, c, p)

    pub absent : is_changing s.status ≡ false → not (is_normal s.status) ≡ true → Hear ≡ accept_of s v
    unfolding accept_of when◌then◌else◌
    absent c n = rw (le-ltb v.0 s.view.0 g, le-ltb s.view.0 v.0 h, c, n)

    pub leading : is_changing s.status ≡ false → not (is_normal s.status) ≡ false → leads s ≡ true → Hear ≡ accept_of s v
    unfolding accept_of when◌then◌else◌
    leading c n l = rw (le-ltb v.0 s.view.0 g, le-ltb s.view.0 v.0 h, c, n, l)

    pub follows : is_changing s.status ≡ false → not (is_normal s.status) ≡ false → leads s ≡ false → Take ≡ accept_of s v
    unfolding accept_of when◌then◌else◌
    follows c n l = rw (le-ltb v.0 s.view.0 g, le-ltb s.view.0 v.0 h, c, n, l)

-- commit_up_to
module _ (s : Replica) (k : Op) (log results totals : List ℕ) where
  pub commits-nothing : k.0 ≤ s.commit.0
      → (s ≡ committed_to s k (runs log results totals)) × (runs log results totals ≡ settled s k (runs log results totals))
  unfolding settled money_committed takings_committed
  commits-nothing h =
      let m : max s.commit.0 k.0 ≡ s.commit.0 = omega arith in
      let z : k.0 - s.commit.0 ≡ 0 = omega arith in
      let w : s.takings ≡ takings_committed s.setup.members log s.commit.0 (k.0 - s.commit.0) (money results totals) s.takings = rw z in
      (λ i. with_commit s (record { 0 = sym m i }) (w i), rw z)

  -- what book::commit_up_to asks
  pub commits-fit : Sound s (runs log results totals) → k.0 ≤ s.op.0 → s.commit.0 < k.0
      → (s.commit.0 + (k.0 - s.commit.0) ≤ 4096)
      × ((8 * s.setup.members ≤ length totals)
      × ((9 * (s.commit.0 + (k.0 - s.commit.0)) ≤ length results) × (entry_place (s.commit.0 + (k.0 - s.commit.0)) ≤ length log)))
  commits-fit h l g =
      let z = sized s.setup h.sized in
      let e : s.commit.0 + (k.0 - s.commit.0) ≡ k.0 = omega arith in
      let p : entry_place k.0 ≤ entry_place s.setup.room = place_mono k.0 s.setup.room (omega (arith, l, h.op_le)) in
      rw e (
        omega (arith, l, h.op_le, z.room-high),
        (
          omega (arith, h.totals-long),
          (omega (arith, l, h.op_le, h.results-long), omega (arith, p, place_is s.setup.room, h.log-long)),
        ),
      )

  pub commits : (t : Replica) (w : ℕ) (rs ts : List ℕ) → s.commit.0 < k.0 → t ≡ with_commit s k w
      → (money rs ts ≡ money_committed s.setup.members log s.commit.0 (k.0 - s.commit.0) (money results totals))
      × (w ≡ takings_committed s.setup.members log s.commit.0 (k.0 - s.commit.0) (money results totals) s.takings)
      → (t ≡ committed_to s k (runs log results totals)) × (runs log rs ts ≡ settled s k (runs log results totals))
  unfolding settled
  commits t w rs ts h p q =
      let m : max s.commit.0 k.0 ≡ k.0 = omega arith in
      (p ∙ λ i. with_commit s (record { 0 = sym m i }) (q.1 i), λ i. record { log = log; money = q.0 i })

-- send_get_state
module _ (s t : Replica) (at : Op) (out : List ℕ) where
  pub asks-short : (a : Returned) → length out < 16 → a ≡ refusal NoRoomForMessages s → spoke a out ≡ asked_for_state s t at out
  unfolding asked_for_state when◌then◌else◌
  asks-short a h p = rw (lt-ltb (length out) 16 h, p)

  get-state-length : (to : ℕ) → length (encode to (GetState t.setup.id t.view at) []) ≡ 16
  unfolding encode header big
  get-state-length to = refl

  pub asks : (a : Returned) (to w : ℕ) (o : List ℕ) → 16 ≤ length out → to ≡ primary_of t.setup.n t.view
      → Wrote (encode to (GetState t.setup.id t.view at) []) out o w → a ≡ completed t w 0 false → spoke a o ≡ asked_for_state s t at out
  unfolding asked_for_state when◌then◌else◌
  asks a to w o h p q e = rw (le-ltb (length out) 16 h, e, q.bytes, q.count, get-state-length to, p)

-- send_prepare_ok
module _ (s : Replica) (out : List ℕ) where
  pub prepares-ok : (to w : ℕ) (o : List ℕ) → to ≡ primary_of s.setup.n s.view
      → Wrote (encode to (PrepareOk s.view s.op s.setup.id) []) out o w → (w ≡ 16) × (o ≡ over (prepare_ok_of s) out)
  unfolding prepare_ok_of encode header big
  prepares-ok to w o p q = (q.count, q.bytes ∙ rw p)

-- acknowledge
module _ (s t : Replica) (k : Op) (installed : Bool) (x : Runs) (out : List ℕ) where
  pub acks-short : (a : Returned) → length out < 16 → a ≡ refusal NoRoomForMessages s → left a x out ≡ committed_and_acked s t k installed x out
  unfolding committed_and_acked when◌then◌else◌
  acks-short a h p = rw (lt-ltb (length out) 16 h, p)

  pub acks : (a : Returned) (u : Replica) (y : Runs) (w : ℕ) (o : List ℕ) → 16 ≤ length out → u ≡ committed_to t k x → y ≡ settled t k x
      → w ≡ 16 → o ≡ over (prepare_ok_of u) out → a ≡ completed u w 0 installed → left a y o ≡ committed_and_acked s t k installed x out
  unfolding committed_and_acked when◌then◌else◌
  acks a u y w o h p q e b c = rw (le-ltb (length out) 16 h, c, q, e, b, p)
