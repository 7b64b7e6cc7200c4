-- `config::insert_another` meets its contract. Assumes nothing.
use mathlib.Core.Path.{sym, ◌∙◌}
use borrow.Author.Tests.{eq-eqb, ne_eqb}
use Rattle.numbers.proofs.WordLaws.{if-true, if-false}
use Rattle.config.specs.Replicas.{with_another}
use Rattle.config.proofs.insert_another.Goals as goal

pub returns-then-id-own : goal.returns-then-id-own
unfolding with_another
returns-then-id-own c = sym (if-true _ _ _ (eq-eqb _ _ c.if-id-own.true))

pub returns : goal.returns
unfolding with_another
returns c = c.insert.ensures ∙ sym (if-false _ _ _ (ne_eqb _ _ c.if-id-own.false))
