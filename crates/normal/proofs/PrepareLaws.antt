-- The ways out of on_prepare, on plain variables, as the code's tests and calls give them. One that isn't taken: CommitLaws.
-- Assumes nothing.
use mathlib.Core.Path.{◌≡◌, refl, sym, ap, ◌∙◌}
use mathlib.Core.Bool.{Bool, true, false, not, false≢true}
use mathlib.Core.List.{List}
use Prim.Native.Nat.{ℕ, ◌+◌, min, ◌≤◌, ◌<◌}
use native.Mathlib.Omega.{arith}
use lib.Dec.{ltb, leb}
use lib.ListN.{length}
use borrow.Author.Tests.{lt-ltb, le-ltb, le-leb, lt-leb, leb-false}
use Rattle.numbers.specs.Words.{when◌then◌else◌}
use Rattle.numbers.specs.declared.Op.{Op}
use Rattle.numbers.proofs.WordLaws.{split}
use Rattle.entries.specs.Entries.{encode_entry}
use Rattle.entries.specs.Places.{entry_place}
use Rattle.entries.specs.declared.Entry.{Entry}
use Rattle.entries.proofs.EntryLaws.{entry-codec}
use Rattle.entries.proofs.PlaceLaws.{place_is, place_mono}
use Rattle.config.proofs.SetupLaws.{sized}
use Rattle.client_table.specs.Latest.{is_new}
use Rattle.book.specs.Log.{with_entries}
use Rattle.book.proofs.LogLaws.{with-length}
use Rattle.state.specs.State.{heard_by, with_log}
use Rattle.state.specs.Answers.{refusal}
use Rattle.state.specs.declared.Returned.{Returned}
use Rattle.state.specs.declared.Replica.{Replica}
use Rattle.steps.specs.Steps.{Sound, Left, left, committed_and_acked}
use Rattle.book.specs.Memory.{Runs, runs}
use Rattle.normal.specs.declared.prepare.PrepareVerdict.{PrepareVerdict}
use Rattle.normal.specs.declared.prepare.PrepareVerdict.TheVariants.{Transfer, Again, Refuse, Append}
use Rattle.normal.specs.declared.prepare.Prepared.{Prepared}
use Rattle.normal.specs.Prepare.{lower_of, append_verdict, prepare_verdict, appended_by, by_prepare_verdict, taken_prepare}
use Rattle.normal.specs.Request.{next_op}
use Rattle.frames.specs.declared.Refusal.TheVariants.{PastRoom, NotRising, NoRoomForMessages}

-- lower
module _ (a b : Op) where
  pub lower-first : a.0 < b.0 → a ≡ lower_of a b
  lower-first h =
      let m : a.0 ≡ min a.0 b.0 = omega arith in
      λ i. record { 0 = m i }

  pub lower-second : b.0 ≤ a.0 → b ≡ lower_of a b
  lower-second h =
      let m : b.0 ≡ min a.0 b.0 = omega arith in
      λ i. record { 0 = m i }

-- weigh_append, weigh
module _ (s : Replica) (p : Prepared) where
  pub full : s.setup.room ≤ s.op.0 → Refuse PastRoom ≡ append_verdict s p
  unfolding append_verdict when◌then◌else◌
  full h = rw (le-leb s.setup.room s.op.0 h)

  module _ (h : s.op.0 < s.setup.room) (b : Bool) (q : b ≡ is_new p.latest p.entry.request) where
    pub stale : not b ≡ true → Refuse NotRising ≡ append_verdict s p
    unfolding append_verdict when◌then◌else◌
    stale n = rw (lt-leb s.setup.room s.op.0 h, ← q, n)

    pub rises : not b ≡ false → Append ≡ append_verdict s p
    unfolding append_verdict when◌then◌else◌
    rises n = rw (lt-leb s.setup.room s.op.0 h, ← q, n)

  pub misses : s.op.0 + 1 < p.op.0 → Transfer ≡ prepare_verdict s p
  unfolding prepare_verdict when◌then◌else◌
  misses h = rw (lt-ltb (s.op.0 + 1) p.op.0 h)

  pub resent : p.op.0 ≤ s.op.0 + 1 → p.op.0 < s.op.0 + 1 → Again ≡ prepare_verdict s p
  unfolding prepare_verdict when◌then◌else◌
  resent h l = rw (le-ltb (s.op.0 + 1) p.op.0 h, lt-ltb p.op.0 (s.op.0 + 1) l)

  pub next : (d : PrepareVerdict) → p.op.0 ≤ s.op.0 + 1 → s.op.0 + 1 ≤ p.op.0 → d ≡ append_verdict s p → d ≡ prepare_verdict s p
  unfolding prepare_verdict when◌then◌else◌
  next d h l e = rw (le-ltb (s.op.0 + 1) p.op.0 h, le-ltb p.op.0 (s.op.0 + 1) l, e)

-- what `Append` says
abbrev appends : PrepareVerdict → Bool
appends Transfer = false
appends Again = false
appends (Refuse k) = false
appends Append = true

module _ (s : Replica) (p : Prepared) where
  abbrev Roomy : PrepareVerdict → Type 0
  Roomy d = d ≡ Append → s.op.0 < s.setup.room

  other : (d : PrepareVerdict) → appends d ≡ false → Roomy d
  other d e h = absurd (false≢true (sym e ∙ ap appends h))

  roomy-next : Roomy (append_verdict s p)
  unfolding append_verdict
  roomy-next =
      split Roomy (leb s.setup.room s.op.0) (Refuse PastRoom) _ (λ _. other (Refuse PastRoom) refl)
      (λ h _. leb-false s.setup.room s.op.0 h)

  roomy_of : Roomy (prepare_verdict s p)
  unfolding prepare_verdict
  roomy_of =
      split Roomy (ltb (s.op.0 + 1) p.op.0) Transfer _ (λ _. other Transfer refl)
      (λ _. split Roomy (ltb p.op.0 (s.op.0 + 1)) Again _ (λ _. other Again refl) (λ _. roomy-next))

  pub room-left : (d : PrepareVerdict) → d ≡ prepare_verdict s p → d ≡ Append → s.op.0 < s.setup.room
  room-left d e h = roomy_of (sym e ∙ h)

-- what weigh asks
pub op-small : (s : Replica) (x : Runs) → Sound s x → s.op.0 ≤ 4096
op-small s x h = omega (arith, h.op_le, (sized s.setup h.sized).room-high)

-- what the steps of an append ask, state and runs before it being sound
module _ (s : Replica) (e : Entry) (log results totals : List ℕ) (h : Sound s (runs log results totals))
    (l : s.op.0 < s.setup.room) where
  pub append-fits : (s.op.0 < 4096) × (entry_place (s.op.0 + 1) ≤ length log)
  append-fits =
      let z = sized s.setup h.sized in
      let p : entry_place (s.op.0 + 1) ≤ entry_place s.setup.room = place_mono (s.op.0 + 1) s.setup.room (omega arith) in
      (omega (arith, z.room-high), omega (arith, p, place_is s.setup.room, h.log-long))

  pub sound-next : (u t : Replica) (r : List ℕ) → r ≡ with_entries s.op.0 (encode_entry e) log → u ≡ heard_by s
      → t ≡ with_log u (next_op s) s.commit → Sound t (runs r results totals)
  sound-next u t r w d f =
      let b = with-length s.op.0 1 (encode_entry e) log (entry-codec.width e) append-fits.1 in
      rw (f, d)
      record {
        sized = h.sized;
        commit-le = omega (arith, h.commit-le);
        op_le = omega arith;
        log-long = ap length w ∙ b ∙ h.log-long;
        results-long = h.results-long;
        totals-long = h.totals-long;
      }

-- the op that is committed up to lies inside the log
pub lower-fits : (m c o k : Op) → m ≡ o → k ≡ lower_of c o → k.0 ≤ m.0
lower-fits m c o k e h = rw (e, h) (omega arith)

-- append
module _ (s : Replica) (p : Prepared) (log results totals out : List ℕ) where
  pub no-area : (a : Returned) → length out < 16 → a ≡ refusal NoRoomForMessages s
      → left a (runs log results totals) out ≡ appended_by s p (runs log results totals) out
  unfolding appended_by when◌then◌else◌
  no-area a h e = rw (lt-ltb (length out) 16 h, e)

  pub appended : (u t : Replica) (k : Op) (r : List ℕ) (y : Left) → 16 ≤ length out
      → r ≡ with_entries s.op.0 (encode_entry p.entry) log → u ≡ heard_by s → t ≡ with_log u (next_op s) s.commit
      → k ≡ lower_of p.commit (next_op s) → y ≡ committed_and_acked s t k false (runs r results totals) out
      → y ≡ appended_by s p (runs log results totals) out
  unfolding appended_by when◌then◌else◌
  appended u t k r y h w d f g e = rw (le-ltb (length out) 16 h, e, g, f, d, w)

-- a Prepare that is taken
module _ (s : Replica) (p : Prepared) (x : Runs) (out : List ℕ) where
  pub weighed : (d e : PrepareVerdict) (y : Left) → d ≡ prepare_verdict s p → d ≡ e → y ≡ by_prepare_verdict e s p x out → y ≡ taken_prepare s p x out
  unfolding taken_prepare
  weighed d e y q m z = z ∙ ap (λ (k : PrepareVerdict). by_prepare_verdict k s p x out) (sym m ∙ q)

  pub acked-again : (u : Replica) (k : Op) (y : Left) → u ≡ heard_by s → k ≡ lower_of p.commit s.op → y ≡ committed_and_acked s u k false x out
      → y ≡ by_prepare_verdict Again s p x out
  unfolding by_prepare_verdict
  acked-again u k y e f g = rw (g, f, e)
