-- `entries::rises_by_chain` meets its contract. Assumes nothing.
use mathlib.Core.Path.{◌≡◌}
use mathlib.Core.Bool.{true}
use Rattle.entries.proofs.ChainLaws.{held, Linked, Sought}
use Rattle.entries.proofs.PairLaws.{client_at, Rises}
use Rattle.entries.proofs.rises_by_chain.Given as goal

-- the entries from the place on are of other clients
abbrev pub invariant-loop-at : goal.invariant-loop-at
invariant-loop-at l = (l.ok ≡ true) × Sought (client_at l.s) l.c l.i (held l.at)

abbrev pub decreases-loop-at : goal.decreases-loop-at
decreases-loop-at l = held l.at

-- the entries below i are in the chains, and rise
abbrev pub invariant-pairs : goal.invariant-pairs
invariant-pairs l = (l.ok ≡ true) × Linked (client_at l.s) l.chains l.i × Rises l.s l.i
