-- `client::create` meets its contract. Assumes nothing.
use Rattle.client.specs.Client.{create_of}
use Rattle.numbers.specs.Words.{when◌then◌else◌}
use native.Mathlib.Omega.{arith}
use mathlib.Core.Path.{sym, ◌∙◌}
use Rattle.numbers.proofs.NumberLaws.{within_both}
use Rattle.client.proofs.create.Goals as goal

pub returns-then-not-replicas_ok : goal.returns-then-not-replicas_ok
unfolding create_of when◌then◌else◌
returns-then-not-replicas_ok c = rw (← c.replicas_ok.ensures, c.if-not-replicas_ok.true, c.fresh.ensures)

pub returns : goal.returns
unfolding create_of when◌then◌else◌
returns c = rw (← c.replicas_ok.ensures, c.if-not-replicas_ok.false, c.fresh-2.ensures)

pub overflow_cast-n : goal.overflow_cast-n
overflow_cast-n c = omega (arith, (within_both 3 7 c.args.n (sym c.replicas_ok.ensures ∙ c.if-not-replicas_ok.false)).1)
