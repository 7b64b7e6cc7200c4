-- Laws of places.
--     place_is, place-small, place-next, place-add, place_mono, place-long    an entry's
--     entry-room      what reading an entry asks, of any of the first n
--     result-next     a result's
--     ack-next        that of a row of acks
-- Assumes nothing.
use mathlib.Core.Path.{◌≡◌, refl}
use Prim.Native.Nat.{ℕ, ◌+◌, ◌*◌, ◌≤◌, ◌<◌}
use native.Mathlib.Omega.{arith}
use Rattle.entries.specs.Places.{entry_place, result_place, ack_place}

pub place_is : (i : ℕ) → 32 * i ≡ entry_place i
place_is i = refl

pub place-small : (i : ℕ) → i ≤ 4096 → entry_place i ≤ 131072
place-small i h = omega arith

pub place-next : (i : ℕ) → entry_place (i + 1) ≡ entry_place i + 32
place-next i = omega arith

pub place-add : (n k : ℕ) → entry_place (n + k) ≡ entry_place n + 32 * k
place-add n k = omega arith

pub place_mono : (i n : ℕ) → i ≤ n → entry_place i ≤ entry_place n
place_mono i n h = omega arith

pub place-long : (n : ℕ) → 32 * n ≤ entry_place n
place-long n = omega arith

pub entry-room : {i room : ℕ} (n : ℕ) → entry_place n ≤ room → i < n → entry_place (i + 1) ≤ room
entry-room {i} n g l = omega (arith, place_mono (i + 1) n (omega arith))

pub result-next : (i : ℕ) → result_place (i + 1) ≡ result_place i + 9
result-next i = omega arith

pub ack-next : (i : ℕ) → ack_place (i + 1) ≡ ack_place i + 1
ack-next i = refl
