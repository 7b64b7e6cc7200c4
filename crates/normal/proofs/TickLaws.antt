-- The ways out of a Normal primary's tick, on plain variables, as the code's tests and calls give them; how long its messages are, and a turn
-- of its Prepares. Assumes nothing.
use mathlib.Core.Path.{◌≡◌, refl, sym, ap, ◌∙◌}
use mathlib.Core.Bool.{false}
use mathlib.Core.List.{List, ◌++◌}
use Prim.Native.Nat.{ℕ, zero, suc, ◌+◌, ◌-◌, ◌*◌, ◌≤◌, ◌<◌}
use native.Mathlib.Nat.{mul-suc, mul-le-mul, mul-le-mul_left}
use native.Mathlib.Omega.{arith}
use lib.ListN.{length, take, drop, length-take, length-drop, length-append}
use borrow.Author.Tests.{lt-ltb, le-ltb}
use Rattle.numbers.specs.Words.{when◌then◌else◌}
use Rattle.numbers.specs.Numbers.{over, Wrote}
use Rattle.numbers.proofs.RunLaws.{over-lend, over-nil, length_over}
use Rattle.entries.specs.Places.{entry_place, entry_in}
use Rattle.entries.specs.declared.Entry.{Entry}
use Rattle.entries.proofs.PlaceLaws.{place_is, entry-room}
use Rattle.config.proofs.SetupLaws.{sized}
use Rattle.clock.specs.Clock.{tick_of}
use Rattle.clock.specs.declared.Duty.TheVariants.{Lead}
use Rattle.clock.specs.declared.Ticked.{Ticked}
use Rattle.frames.specs.declared.Message.TheVariants.{Prepare, Commit}
use Rattle.writers.specs.Writers.{size_of, to_others}
use Rattle.state.specs.State.{with_clock}
use Rattle.state.specs.Answers.{refusal, completed}
use Rattle.state.specs.declared.Returned.{Returned}
use Rattle.state.specs.declared.Replica.{Replica}
use Rattle.steps.specs.Steps.{spoke}
use Rattle.normal.specs.Tick.{Leading, heartbeat_length, prepares_length, heartbeat_of, prepares_to, prepares_of, primary_tick}
use Rattle.normal.proofs.SendLaws.{prepare-long, beat-long}
use Rattle.frames.specs.declared.Refusal.TheVariants.{NoRoomForMessages}

-- no more than 4096 ops to 6 others
pub prepares-small : (s : Replica) (n : ℕ) → Leading s n → prepares_length s (s.op.0 - s.commit.0) ≤ 1253376
prepares-small s n h =
    let z = sized s.setup h.sized in
    mul-le-mul {n₁ = 51 * (s.setup.n - 1)} {m₁ = s.op.0 - s.commit.0} {n₂ = 306} {m₂ = 4096}
    (omega (arith, z.seven)) (omega (arith, h.op_le, z.room-high))

-- the Prepares of the ops after the commit number, up to i, stand over the front of an area
pub record Sent (s : Replica) (log out cur : List ℕ) (at i : ℕ) : Type 0 where
  pub low : s.commit.0 ≤ i
  pub high : i ≤ s.op.0
  pub long : length cur ≡ length out
  pub bytes : cur ≡ over (prepares_of s log (i - s.commit.0)) out
  pub count : at ≡ length (prepares_of s log (i - s.commit.0))

-- a Leading replica, and the log
module _ (s : Replica) (log : List ℕ) (h : Leading s (length log)) where
  -- what entries::entry_in asks
  pub entry-asks : (i : ℕ) → i < s.op.0 → entry_place (i + 1) ≤ length log
  entry-asks i l =
      entry-room {i = i} s.setup.room (omega (arith, place_is s.setup.room, h.log-long)) (omega (arith, l, h.op_le))

  -- send_prepare
  pub prepares-one : (i w : ℕ) (e : Entry) (out o : List ℕ) → e ≡ entry_in log i
      → Wrote (to_others s.setup.n s.setup.id (Prepare s.view (record { 0 = i + 1 }) s.commit e)
      (take (32 * (size_of (Prepare s.view (record { 0 = i + 1 }) s.commit e)).entries) log)) out o w
      → Wrote (prepares_to s i log) out o w
  unfolding prepares_to size_of
  prepares-one i w e out o p q = rw (← p) q

  to-long : (i : ℕ) → length (prepares_to s i log) ≡ 51 * (s.setup.n - 1)
  unfolding prepares_to
  to-long i = prepare-long s.setup h.sized s.view (record { 0 = i + 1 }) s.commit (entry_in log i)

  pub prepares-long : (k : ℕ) → length (prepares_of s log k) ≡ prepares_length s k
  unfolding prepares_of
  prepares-long zero = omega arith
  prepares-long (suc k) =
      length-append (prepares_of s log k) (prepares_to s (s.commit.0 + k) log)
      ∙ omega (arith, prepares-long k, to-long (s.commit.0 + k), mul-suc (51 * (s.setup.n - 1)) k)

  -- a part of them has no more bytes than all
  prepares-most : (k : ℕ) → k ≤ s.op.0 - s.commit.0 → length (prepares_of s log k) ≤ prepares_length s (s.op.0 - s.commit.0)
  prepares-most k l =
      omega (arith, prepares-long k, mul-le-mul_left {m = k} {n = s.op.0 - s.commit.0} (51 * (s.setup.n - 1)) l)

  pub sent-none : (out : List ℕ) → Sent s log out out 0 s.commit.0
  unfolding prepares_of
  sent-none out =
      let z : s.commit.0 - s.commit.0 ≡ 0 = omega arith in
      record { low = omega arith; high = h.commit-le; long = refl; bytes = rw z (over-nil out); count = rw z refl }

  pub sent-all : (out cur : List ℕ) (at i : ℕ) → Sent s log out cur at i → s.op.0 ≤ i
      → Wrote (prepares_of s log (s.op.0 - s.commit.0)) out cur at
  sent-all out cur at i v l =
      let f : i - s.commit.0 ≡ s.op.0 - s.commit.0 = omega (arith, v.high) in
      record { bytes = rw (← f) v.bytes; count = rw (← f) v.count }

  -- a turn of send_prepares, where the area has room for all
  module _ (out cur : List ℕ) (at i : ℕ) (room : prepares_length s (s.op.0 - s.commit.0) ≤ length out) (v : Sent s log out cur at i)
      (l : i < s.op.0) where
    next : at + prepares_length s 1 ≤ prepares_length s (s.op.0 - s.commit.0)
    next =
        let k : suc (i - s.commit.0) ≤ s.op.0 - s.commit.0 = omega (arith, v.low) in
        omega (
          arith,
          v.count,
          prepares-long (i - s.commit.0),
          prepares-most (suc (i - s.commit.0)) k,
          prepares-long (suc (i - s.commit.0)),
          mul-suc (51 * (s.setup.n - 1)) (i - s.commit.0),
        )

    pub turn_in : at ≤ length cur
    turn_in = omega (arith, room, v.long, next)

    -- there is room for the next
    pub turn-rest : prepares_length s 1 ≤ length (take (length cur - at) (drop at cur))
    turn-rest = simp (length-take, length-drop) (omega (arith, room, v.long, next))

    module _ (w : ℕ) (part : List ℕ) (x : Wrote (prepares_to s i log) (take (length cur - at) (drop at cur)) part w) where
      pub turn_small : at + w ≤ 1253376
      turn_small = omega (arith, next, x.count, to-long i, prepares-small s (length log) h)

      more : prepares_of s log (i + 1 - s.commit.0) ≡ prepares_of s log (i - s.commit.0) ++ prepares_to s i log
      unfolding prepares_of
      more =
          let e : i + 1 - s.commit.0 ≡ suc (i - s.commit.0) = omega (arith, v.low) in
          let f : s.commit.0 + (i - s.commit.0) ≡ i = omega (arith, v.low) in
          rw (e, f)

      pub turn : Sent s log out (take at cur ++ (part ++ drop (length cur - at) (drop at cur))) (at + w) (i + 1)
      turn =
          let b = over-lend (prepares_of s log (i - s.commit.0)) (prepares_to s i log) out at (sym v.count) v.bytes x.bytes in
          let n = length-append (prepares_of s log (i - s.commit.0)) (prepares_to s i log) in
          record {
            low = omega (arith, v.low);
            high = omega (arith, l);
            long =
                ap length b
                ∙ length_over (prepares_of s log (i - s.commit.0) ++ prepares_to s i log) out
                (omega (arith, n, v.count, next, to-long i, room));
            bytes = rw more b;
            count = rw more (omega (arith, n, v.count, x.count));
          }

  -- tick_primary
  module _ (out : List ℕ) (k : ℕ) (e : k ≡ heartbeat_length s + prepares_length s (s.op.0 - s.commit.0)) where
    pub tick-short : (a : Returned) → length out < k → a ≡ refusal NoRoomForMessages s → spoke a out ≡ primary_tick s log out
    unfolding primary_tick when◌then◌else◌
    tick-short a l p = rw (lt-ltb (length out) (heartbeat_length s + prepares_length s (s.op.0 - s.commit.0)) (omega arith), p)

    -- where the heartbeat stands over the front of the area
    module _ (l : k ≤ length out) (w : ℕ) (o : List ℕ)
        (b : Wrote (to_others s.setup.n s.setup.id (Commit s.view s.commit)
        (take (32 * (size_of (Commit s.view s.commit)).entries) log)) out o w) where
      beat-count : w ≡ heartbeat_length s
      unfolding size_of
      beat-count = b.count ∙ beat-long s.setup h.sized s.view s.commit

      beat-length : length o ≡ length out
      unfolding size_of
      beat-length =
          ap length b.bytes
          ∙ length_over (heartbeat_of s) out (omega (arith, e, l, beat-long s.setup h.sized s.view s.commit))

      pub beat-in : w ≤ length o
      beat-in = omega (arith, e, l, beat-count, beat-length)

      -- the rest has room for the Prepares
      pub beat-rest : prepares_length s (s.op.0 - s.commit.0) ≤ length (take (length o - w) (drop w o))
      beat-rest = simp (length-take, length-drop) (omega (arith, e, l, beat-count, beat-length))

      module _ (p : ℕ) (part : List ℕ)
          (c : Wrote (prepares_of s log (s.op.0 - s.commit.0)) (take (length o - w) (drop w o)) part p) where
        all-count : p ≡ prepares_length s (s.op.0 - s.commit.0)
        all-count = c.count ∙ prepares-long (s.op.0 - s.commit.0)

        pub tick-small : w + p ≤ 1253466
        tick-small =
            let z = sized s.setup h.sized in
            omega (arith, z.seven, beat-count, all-count, prepares-small s (length log) h)

        pub ticks : (x : Ticked) (t : Replica) (a : Returned) → x ≡ tick_of s.setup.timeout Lead s.clock → t ≡ with_clock s x.clock
            → a ≡ completed t (w + p) 0 false
            → spoke a (take w o ++ (part ++ drop (length o - w) (drop w o))) ≡ primary_tick s log out
        unfolding primary_tick when◌then◌else◌ size_of
        ticks x t a y z q =
            let f = over-lend (heartbeat_of s) (prepares_of s log (s.op.0 - s.commit.0)) out w (sym b.count) b.bytes c.bytes in
            rw (
              le-ltb (length out) (heartbeat_length s + prepares_length s (s.op.0 - s.commit.0)) (omega (arith, e, l)),
              f,
              q,
              z,
              y,
              beat-count,
              all-count,
            )
