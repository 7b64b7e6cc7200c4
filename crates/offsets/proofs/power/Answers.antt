-- `offsets::power` meets its contract: 8 k bits up is 256 to the k. Assumes nothing.
use mathlib.Core.Path.{◌≡◌, refl}
use Prim.Native.Nat.{ℕ, zero, suc, ◌+◌, ◌*◌, ◌%◌, ◌^◌}
use native.Mathlib.Omega.{arith}
use native.Mathlib.Nat.{pow-succ', mod-eq_of_lt}
use lib.Pow.{pow-add}
use Rattle.numbers.proofs.NumberLaws.{pow-le256}
use Rattle.offsets.proofs.power.Goals as goal

bytes : (k : ℕ) → 2 ^ (8 * k) ≡ 256 ^ k
bytes zero = refl
bytes (suc k) =
    let e : 8 * suc k ≡ 8 + 8 * k = omega arith in
    rw (e, pow-add 2 8 (8 * k), pow-succ' 256 k, bytes k)

pub returns : goal.returns
returns c =
    let k = c.args.k in
    let h : 256 ^ k % 18446744073709551616 ≡ 256 ^ k = mod-eq_of_lt (omega (arith, pow-le256 {i = k} {j = 7} (omega arith))) in
    rw (bytes k) (omega (arith, h))
