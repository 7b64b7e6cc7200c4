-- `entries::operation_ok` meets its contract. Assumes nothing.
use mathlib.Core.Path.{◌≡◌, sym, ◌∙◌}
use mathlib.Core.Bool.{false}
use mathlib.Core.Logic.{◌≢◌, ⊎_elim}
use Prim.Native.Nat.{ℕ, ◌≤◌}
use native.Mathlib.Omega.{arith}
use borrow.Author.Tests.{ne_eqb}
use Rattle.numbers.specs.Words.{when◌then◌else◌}
use Rattle.numbers.specs.Numbers.{within}
use Rattle.numbers.proofs.NumberLaws.{eq-or-not}
use Rattle.entries.specs.Entries.{operation_ok}
use Rattle.entries.proofs.operation_ok.Goals as goal

-- a Fee or a Refund
charged : (k cents : ℕ) → 1 ≤ k → k ≤ 2 → operation_ok k cents ≡ within 1 1000000 cents
unfolding operation_ok when◌then◌else◌
charged k cents h g = ⊎_elim (λ (e : k ≡ 1). rw e) (λ (n : k ≢ 1). let e : k ≡ 2 = omega (arith, n) in rw e) (eq-or-not k 1)

-- no operation's number
no-operation : (k cents : ℕ) → k ≢ 1 → k ≢ 2 → k ≢ 3 → false ≡ operation_ok k cents
unfolding operation_ok when◌then◌else◌
no-operation k cents a b d = simp (ne_eqb k 1 a, ne_eqb k 2 b, ne_eqb k 3 d)

pub returns-in-1 : goal.returns-in-1
returns-in-1 c = c.within.ensures ∙ sym (charged c.args.operation c.args.cents (omega arith) (omega arith))

pub returns-in-3 : goal.returns-in-3
unfolding operation_ok when◌then◌else◌
returns-in-3 c = rw c.in-3.is

pub returns-in_default : goal.returns-in_default
returns-in_default c = no-operation c.args.operation c.args.cents (omega arith) (omega arith) (omega arith)

pub returns-in_default-2 : goal.returns-in_default-2
returns-in_default-2 c = no-operation c.args.operation c.args.cents (omega arith) (omega arith) (omega arith)
