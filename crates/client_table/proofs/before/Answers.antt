-- `client_table::before` meets its contract. Assumes nothing.
use mathlib.Core.Path.{◌≡◌, sym}
use mathlib.Core.Bool.{false}
use Rattle.numbers.specs.Words.{◌and◌}
use Rattle.client_table.specs.Search.{is_before}
use mathlib.Core.Bool.{Bool, false}
use Prim.Native.Nat.{ℕ}
use Rattle.client_table.specs.declared.Goal.{Goal}
use Rattle.client_table.specs.declared.Goal.TheVariants.{Client, End}
use Rattle.client_table.proofs.before.Goals as goal

pub returns-in-Client : goal.returns-in-Client
unfolding is_before ◌and◌
returns-in-Client c = rw (c.in-Client.is, c.if-not-used.false)

pub returns-in-End : goal.returns-in-End
unfolding is_before ◌and◌
returns-in-End c = rw c.in-End.is (sym (c.if-not-used.false))

unused : (used : Bool) (client : ℕ) (goal : Goal) → used ≡ false → false ≡ is_before used client goal
unfolding is_before ◌and◌
unused used client (Client c) p = rw p
unused used client End p = sym p

pub returns-then-not-used : goal.returns-then-not-used
returns-then-not-used c = unused _ _ _ c.if-not-used.true
