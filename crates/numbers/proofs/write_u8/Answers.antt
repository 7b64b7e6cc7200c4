-- `numbers::write_u8` meets its contract. Assumes nothing.
use mathlib.Core.Path.{◌≡◌, refl}
use Prim.Native.Nat.{◌/◌, ◌%◌}
use mathlib.Core.List.{[]}
use native.Mathlib.Omega.{arith}
use Rattle.numbers.specs.Numbers.{big}
use Rattle.numbers.proofs.RunLaws.{over-set, over-nil}
use Rattle.numbers.proofs.write_u8.Goals as goal

pub returns : goal.returns
unfolding big
returns c =
    let a = c.args.area.now in
    let e : c.args.x / 1 % 256 ≡ c.args.x = omega arith in
    rw e (over-set [] a 0 c.args.x refl (omega arith) (over-nil a))
