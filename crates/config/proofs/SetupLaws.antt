-- What a setup inside the sizes says, and that nothing else passes.
--     sized, sized-back   the test and the facts say the same
--     primary-below       a primary is one of the replicas
-- Assumes nothing.
use mathlib.Core.Path.{◌≡◌}
use mathlib.Core.Bool.{true}
use Prim.Native.Nat.{ℕ, ◌≤◌, ◌<◌}
use native.Mathlib.Nat.{mod-lt}
use lib.Dec.{ltb}
use borrow.Author.Tests.{ltb-true, lt-ltb}
use Rattle.numbers.specs.Words.{◌and◌}
use Rattle.numbers.specs.declared.View.{View}
use Rattle.numbers.proofs.WordLaws.{and_both}
use Rattle.numbers.proofs.NumberLaws.{within_both, both-within}
use Rattle.config.specs.Setup.{replicas_ok, timeout_ok, room_ok, setup_ok, primary_of}
use Rattle.config.specs.declared.Setup.{Setup}

pub record Sized (s : Setup) : Type 0 where
  pub three : 3 ≤ s.n
  pub seven : s.n ≤ 7
  pub own : s.id < s.n
  pub waits : 1 ≤ s.timeout
  pub waits-high : s.timeout ≤ 65535
  pub room-low : 1 ≤ s.room
  pub room-high : s.room ≤ 4096
  pub members-low : 1 ≤ s.members
  pub members-high : s.members ≤ 4096

pub sized : (s : Setup) → setup_ok s ≡ true → Sized s
unfolding setup_ok
sized s h =
    let p = and_both (replicas_ok s.n) (ltb s.id s.n and timeout_ok s.timeout and room_ok s.room and room_ok s.members) h in
    let q = and_both (ltb s.id s.n) (timeout_ok s.timeout and room_ok s.room and room_ok s.members) p.1 in
    let r = and_both (timeout_ok s.timeout) (room_ok s.room and room_ok s.members) q.1 in
    let t = and_both (room_ok s.room) (room_ok s.members) r.1 in
    let n = within_both 3 7 s.n p.0 in
    let w = within_both 1 65535 s.timeout r.0 in
    let l = within_both 1 4096 s.room t.0 in
    let m = within_both 1 4096 s.members t.1 in
    record {
      three = n.0;
      seven = n.1;
      own = ltb-true s.id s.n q.0;
      waits = w.0;
      waits-high = w.1;
      room-low = l.0;
      room-high = l.1;
      members-low = m.0;
      members-high = m.1;
    }

pub sized-back : (s : Setup) → Sized s → setup_ok s ≡ true
unfolding setup_ok ◌and◌
sized-back s z =
    rw (
      both-within 3 7 s.n z.three z.seven,
      lt-ltb s.id s.n z.own,
      both-within 1 65535 s.timeout z.waits z.waits-high,
      both-within 1 4096 s.room z.room-low z.room-high,
      both-within 1 4096 s.members z.members-low z.members-high,
    )

pub primary-below : (n : ℕ) (v : View) → 0 < n → primary_of n v < n
unfolding primary_of
primary-below n v h = mod-lt v.0 h
