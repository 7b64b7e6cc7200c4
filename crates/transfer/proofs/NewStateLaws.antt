-- The ways out of on_new_state, on plain variables, as the code's tests and calls give them. Assumes nothing.
use mathlib.Core.Path.{◌≡◌, refl, ◌∙◌, subst}
use mathlib.Core.Bool.{Bool, true, false, not}
use mathlib.Core.List.{List}
use Prim.Native.Nat.{ℕ, ◌+◌, ◌-◌, ◌*◌, ◌≤◌, ◌<◌}
use native.Mathlib.Omega.{arith}
use lib.Dec.{ltb, leb, eqb}
use lib.ListN.{length, take, drop, length-drop}
use lib.Seq.{length-take-le}
use borrow.Author.Tests.{lt-ltb, le-ltb, le-leb, lt-leb, eq-eqb, ne_eqb, ltb-false, leb-false, eqb-true, not-false}
use Rattle.numbers.specs.Words.{when◌then◌else◌}
use Rattle.numbers.specs.declared.View.{View}
use Rattle.numbers.proofs.WordLaws.{split}
use Rattle.numbers.proofs.RunLaws.{part-rest}
use Rattle.entries.specs.Entries.{entries}
use Rattle.entries.specs.Places.{entry_place}
use Rattle.entries.proofs.PlaceLaws.{place_is}
use Rattle.config.proofs.SetupLaws.{sized}
use Rattle.frames.specs.declared.Status.TheVariants.{Normal}
use Rattle.book.specs.Log.{with_entries, rises_after}
use Rattle.book.proofs.LogLaws.{with-length}
use Rattle.state.specs.State.{heard_by, with_status, with_log, normal_in}
use Rattle.state.specs.Statuses.{is_transfer, is_changing}
use Rattle.state.specs.Answers.{refusal, quiet}
use Rattle.state.specs.declared.Returned.{Returned}
use Rattle.state.specs.declared.Replica.{Replica}
use Rattle.steps.specs.Steps.{Left, Sound, left, committed_and_acked}
use Rattle.book.specs.Memory.{Runs}
use Rattle.transfer.specs.declared.Part.{Part}
use Rattle.transfer.specs.declared.Use.{Use}
use Rattle.transfer.specs.declared.Use.TheVariants.{Ignore, Hear, Fill, Install}
use Rattle.transfer.specs.NewState.{PartPassed, transfer_use, change_use, use_of, extended, gap_filled, installed, by_use, new_state_step}
use Rattle.frames.specs.declared.Refusal.TheVariants.{NotRising, NoRoomForMessages}

-- ---- what it is used for

module _ (s : Replica) (p : Part) where
  pub starts-past : s.op.0 < p.start.0 → Hear ≡ transfer_use s p
  unfolding transfer_use when◌then◌else◌
  starts-past h = rw (lt-ltb s.op.0 p.start.0 h)

  pub ends-inside : p.start.0 ≤ s.op.0 → p.end.0 ≤ s.op.0 → Hear ≡ transfer_use s p
  unfolding transfer_use when◌then◌else◌
  ends-inside h g = rw (le-ltb s.op.0 p.start.0 h, le-leb p.end.0 s.op.0 g)

  pub fills : p.start.0 ≤ s.op.0 → s.op.0 < p.end.0 → Fill ≡ transfer_use s p
  unfolding transfer_use when◌then◌else◌
  fills h g = rw (le-ltb s.op.0 p.start.0 h, lt-leb p.end.0 s.op.0 g)

  pub voting : not s.catching ≡ true → Hear ≡ change_use s p
  unfolding change_use when◌then◌else◌
  voting h = rw h

  pub starts-elsewhere : not s.catching ≡ false → (p.start.0 ≡ s.commit.0 → ⊥) → Hear ≡ change_use s p
  unfolding change_use when◌then◌else◌
  starts-elsewhere h g = rw (h, ne_eqb p.start.0 s.commit.0 g)

  pub installs : not s.catching ≡ false → p.start.0 ≡ s.commit.0 → Install ≡ change_use s p
  unfolding change_use when◌then◌else◌
  installs h g = rw (h, eq-eqb p.start.0 s.commit.0 g)

module _ (s : Replica) (v : View) (p : Part) where
  pub elsewhere : (v.0 ≡ s.view.0 → ⊥) → Ignore ≡ use_of s v p
  unfolding use_of when◌then◌else◌
  elsewhere h = rw (ne_eqb v.0 s.view.0 h)

  module _ (h : v.0 ≡ s.view.0) where
    pub waiting : (u : Use) → is_transfer s.status ≡ true → u ≡ transfer_use s p → u ≡ use_of s v p
    unfolding use_of when◌then◌else◌
    waiting u t e = rw (eq-eqb v.0 s.view.0 h, t, e)

    pub changing : (u : Use) → is_transfer s.status ≡ false → is_changing s.status ≡ true → u ≡ change_use s p → u ≡ use_of s v p
    unfolding use_of when◌then◌else◌
    changing u t c e = rw (eq-eqb v.0 s.view.0 h, t, c, e)

    pub hears : is_transfer s.status ≡ false → is_changing s.status ≡ false → Hear ≡ use_of s v p
    unfolding use_of when◌then◌else◌
    hears t c = rw (eq-eqb v.0 s.view.0 h, t, c)

-- what each use that changes the log says of the numbers
unfoldable Told : Replica → Part → Use → Type 0
Told s p Ignore = Unit
Told s p Hear = Unit
Told s p Fill = (p.start.0 ≤ s.op.0) × (s.op.0 < p.end.0)
Told s p Install = p.start.0 ≡ s.commit.0

transfer-told : (s : Replica) (p : Part) → Told s p (transfer_use s p)
unfolding transfer_use Told
transfer-told s p =
    split (Told s p) (ltb s.op.0 p.start.0) Hear _ (λ _. tt) (λ a.
    split (Told s p) (leb p.end.0 s.op.0) Hear Fill (λ _. tt) (λ b.
    (ltb-false s.op.0 p.start.0 a, leb-false p.end.0 s.op.0 b)))

change-told : (s : Replica) (p : Part) → Told s p (change_use s p)
unfolding change_use Told
change-told s p =
    split (Told s p) (not s.catching) Hear _ (λ _. tt) (λ _.
    split (Told s p) (not (eqb p.start.0 s.commit.0)) Hear Install (λ _. tt) (λ b.
    eqb-true p.start.0 s.commit.0 (not-false (eqb p.start.0 s.commit.0) b)))

use-told : (s : Replica) (v : View) (p : Part) → Told s p (use_of s v p)
unfolding use_of Told
use-told s v p =
    split (Told s p) (not (eqb v.0 s.view.0)) Ignore _ (λ _. tt) (λ _.
    split (Told s p) (is_transfer s.status) (transfer_use s p) _ (λ _. transfer-told s p) (λ _.
    split (Told s p) (is_changing s.status) (change_use s p) Hear (λ _. change-told s p) (λ _. tt)))

pub fill-told : (s : Replica) (v : View) (p : Part) → use_of s v p ≡ Fill → (p.start.0 ≤ s.op.0) × (s.op.0 < p.end.0)
unfolding Told
fill-told s v p h = subst (Told s p) h (use-told s v p)

pub install-told : (s : Replica) (v : View) (p : Part) → use_of s v p ≡ Install → p.start.0 ≡ s.commit.0
unfolding Told
install-told s v p h = subst (Told s p) h (use-told s v p)

-- ---- the log's first n entries, and then k of `part`

module _ (s : Replica) (x : Runs) (n k : ℕ) (part : List ℕ) (h : Sound s x) (l : 32 * k ≤ length part) where
  -- what book::rises_after asks
  pub rises-fit : n ≤ s.op.0 → (n ≤ 4096) × ((entry_place n ≤ length x.log) × (32 * k ≤ length part))
  rises-fit g =
      let z = sized s.setup h.sized in
      (omega (arith, g, h.op_le, z.room-high), (omega (arith, g, h.op_le, h.log-long, place_is n), l))

  -- what book::append_part asks
  pub append-fits : n + k ≤ s.setup.room → (n + k ≤ 4096) × ((entry_place (n + k) ≤ length x.log) × (32 * k ≤ length part))
  append-fits g =
      let z = sized s.setup h.sized in
      (omega (arith, g, z.room-high), (omega (arith, g, h.log-long, place_is (n + k)), l))

  -- the state that then commits and acknowledges
  pub extended-sound : (t : Replica) (log : List ℕ) → t.setup ≡ s.setup → s.commit.0 ≡ t.commit.0 → t.commit.0 ≤ t.op.0
      → t.op.0 ≡ n + k → n + k ≤ s.setup.room → log ≡ with_entries n (take (32 * k) part) x.log
      → Sound t (record { log = log; money = x.money })
  extended-sound t log u c o e r q =
      let long : length log ≡ length x.log =
      rw q (with-length n k (take (32 * k) part) x.log (length-take-le (32 * k) part l) (append-fits r).1.0) in
      rw u (record {
        sized = h.sized;
        commit-le = o;
        op_le = omega (arith, e, r);
        log-long = long ∙ h.log-long;
        results-long = h.results-long;
        totals-long = h.totals-long;
      })

module _ (s t : Replica) (n k : ℕ) (p : Part) (whole : Bool) (part : List ℕ) (x : Runs) (out : List ℕ) where
  pub breaks : (a : Returned) → not (rises_after (entries n x.log) (entries k part)) ≡ true → a ≡ refusal NotRising s
      → left a x out ≡ extended s t n k p whole part x out
  unfolding extended when◌then◌else◌
  breaks a h q = rw (h, q)

  pub short : (a : Returned) → not (rises_after (entries n x.log) (entries k part)) ≡ false → length out < 16 → a ≡ refusal NoRoomForMessages s
      → left a x out ≡ extended s t n k p whole part x out
  unfolding extended when◌then◌else◌
  short a h g q = rw (h, lt-ltb (length out) 16 g, q)

  pub extends : (d : Left) (u : Replica) (log : List ℕ) → not (rises_after (entries n x.log) (entries k part)) ≡ false → 16 ≤ length out
      → log ≡ with_entries n (take (32 * k) part) x.log → u ≡ t
      → d ≡ committed_and_acked s u p.commit whole (record { log = log; money = x.money }) out → d ≡ extended s t n k p whole part x out
  unfolding extended when◌then◌else◌
  extends d u log h g e q c = rw (h, le-ltb (length out) 16 g) (c ∙ rw (e, q))

-- ---- the two uses that change the log

module _ (s : Replica) (p : Part) (part : List ℕ) (x : Runs) (h : Sound s x) (c : PartPassed s p) where
  -- what `fill` gives to steps::acknowledge
  pub fill-fits : (log : List ℕ) → s.op.0 < p.end.0 → 32 * (p.end.0 - s.op.0) ≤ length part
      → log ≡ with_entries s.op.0 (take (32 * (p.end.0 - s.op.0)) part) x.log
      → Sound (with_log (with_status (heard_by s) Normal) p.end s.commit) (record { log = log; money = x.money })
      × (p.commit.0 ≤ p.end.0)
  fill-fits log g l e = (
    extended-sound
        s
        x
        s.op.0
        (p.end.0 - s.op.0)
        part
        h
        l
        (with_log (with_status (heard_by s) Normal) p.end s.commit)
        log
        refl
        refl
        (omega (arith, g, h.commit-le))
        (omega (arith, g))
        (omega (arith, g, c.end-le))
        e,
    c.commit-le,
  )

  -- and `install`
  pub install-fits : (log : List ℕ) → p.start.0 ≡ s.commit.0 → 32 * (p.end.0 - p.start.0) ≤ length part
      → log ≡ with_entries s.commit.0 (take (32 * (p.end.0 - p.start.0)) part) x.log
      → Sound (with_log (normal_in s s.view) p.end s.commit) (record { log = log; money = x.money }) × (p.commit.0 ≤ p.end.0)
  install-fits log g l e = (
    extended-sound
        s
        x
        s.commit.0
        (p.end.0 - p.start.0)
        part
        h
        l
        (with_log (normal_in s s.view) p.end s.commit)
        log
        refl
        refl
        (omega (arith, g, c.start-le))
        (omega (arith, g, c.start-le))
        (omega (arith, g, c.start-le, c.end-le))
        e,
    c.commit-le,
  )

-- ---- on_new_state

-- where the entries beyond our log begin, and that they are there
module _ (s : Replica) (v : View) (p : Part) (part : List ℕ) (h : use_of s v p ≡ Fill) (l : 32 * (p.end.0 - p.start.0) ≤ length part) where
  pub skip-fits : 32 * (s.op.0 - p.start.0) ≤ length part
  skip-fits =
      let g = fill-told s v p h in
      omega (arith, g.0, g.1, l)

  pub rest-fits : 32 * (p.end.0 - s.op.0)
      ≤ length (take (length part - 32 * (s.op.0 - p.start.0)) (drop (32 * (s.op.0 - p.start.0)) part))
  rest-fits =
      let g = fill-told s v p h in
      rw (part-rest (32 * (s.op.0 - p.start.0)) part, length-drop) (omega (arith, g.0, g.1, l))

module _ (s : Replica) (v : View) (p : Part) (part : List ℕ) (x : Runs) (out : List ℕ) where
  pub ignored : (a : Returned) → use_of s v p ≡ Ignore → a ≡ quiet s → left a x out ≡ new_state_step s v p part x out
  unfolding new_state_step by_use
  ignored a h q = rw (h, q)

  pub heard : (a : Returned) (t : Replica) → use_of s v p ≡ Hear → t ≡ heard_by s → a ≡ quiet t → left a x out ≡ new_state_step s v p part x out
  unfolding new_state_step by_use
  heard a t h e q = rw (h, q, e)

  pub filled-by : (d : Left) (rest : List ℕ) → use_of s v p ≡ Fill → rest ≡ drop (32 * (s.op.0 - p.start.0)) part → d ≡ gap_filled s p rest x out
      → d ≡ new_state_step s v p part x out
  unfolding new_state_step by_use
  filled-by d rest h e q = rw h (q ∙ rw e)

  pub installed-by : (d : Left) → use_of s v p ≡ Install → d ≡ installed s p part x out → d ≡ new_state_step s v p part x out
  unfolding new_state_step by_use
  installed-by d h q = rw h q
