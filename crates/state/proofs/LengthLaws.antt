-- Laws of the places of stored logs: all lie within 917,504 bytes, and each ends where the next begins, at the latest. Assumes nothing.
use mathlib.Core.Path.{◌≡◌}
use Prim.Native.Nat.{ℕ, ◌+◌, ◌*◌, ◌≤◌, ◌<◌}
use native.Mathlib.Nat.{mul-add, mul-le-mul, mul-le-mul_left}
use native.Mathlib.Omega.{arith}
use Rattle.state.specs.Lengths.{stored_place}

pub stored-place-small : (room id : ℕ) → room ≤ 4096 → id ≤ 7 → stored_place room id ≤ 917504
unfolding stored_place
stored-place-small room id h g = mul-le-mul {n₁ = 32 * room} {m₁ = id} {n₂ = 131072} {m₂ = 7} (omega arith) (omega arith)

-- a log of at most L entries ends where the place of a later id begins, at the latest
pub stored-place-next : (room id n op : ℕ) → id < n → op ≤ room → stored_place room id + 32 * op ≤ stored_place room n
unfolding stored_place
stored-place-next room id n op h g =
    let e : 32 * room * (id + 1) ≡ 32 * room * id + 32 * room * 1 = mul-add (32 * room) id 1 in
    let m : 32 * room * (id + 1) ≤ 32 * room * n = mul-le-mul_left {m = id + 1} {n = n} (32 * room) (omega arith) in
    omega arith
