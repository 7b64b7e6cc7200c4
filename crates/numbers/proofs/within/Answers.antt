-- `numbers::within` meets its contract. Assumes nothing.
use mathlib.Core.Path.{◌≡◌, refl, ◌∙◌}
use mathlib.Core.Bool.{Bool, true, false, ◌&&◌}
use native.Mathlib.Omega.{arith}
use Prim.Native.Nat.{ℕ}
use lib.Dec.{leb}
use Rattle.std.specs.Ordering.{is_le, nat_cmp}
use Rattle.std.proofs.lemmas.Bool.Decides.{nat_tests}
use Rattle.numbers.specs.Words.{◌and◌}
use Rattle.numbers.specs.Numbers.{within}
use Rattle.numbers.proofs.within.Goals as goal

side : (x y : ℕ) → is_le (nat_cmp x y) ≡ leb x y
side x y = grind (arith, nat_tests)

joined : (p q : Bool) → (p && q) ≡ (p and q)
unfolding ◌and◌
joined true q = refl
joined false q = refl

both : (low high x : ℕ) → (is_le (nat_cmp low x) && is_le (nat_cmp x high)) ≡ within low high x
unfolding within
both low high x = rw (side low x, side x high) (joined (leb low x) (leb x high))

pub returns : goal.returns
returns c = let n = c.new.ensures in (rw (n.start, n.end, n.exhausted) at c.contains.ensures.value) ∙ both c.args.low c.args.high c.args.x
