-- `csv::fields::stops` meets its contract: the four keys of its match are the four bytes of the definition.
-- Assumes nothing.
use mathlib.Core.Logic.{⊎_elim, inl, inr}
use borrow.Author.Tests.{ne_eqb}
use Rattle.numbers.specs.Words.{◌or◌}
use Rattle.csv_table.specs.Fields.{stops}
use Rattle.csv_table.proofs.fields.stops.Goals as goal

pub returns-in-34 : goal.returns-in-34
unfolding stops ◌or◌
returns-in-34 c = ⊎_elim (λ e. rw e) (⊎_elim (λ e. rw e) (⊎_elim (λ e. rw e) (λ e. rw e))) c.in-34.is

pub returns-in_default : goal.returns-in_default
unfolding stops ◌or◌
returns-in_default c =
    let n = c.in_default.in_default-own.rest.1 in
    simp (
      ne_eqb _ 34 (λ e. n (inr (inr (inl e)))),
      ne_eqb _ 44 (λ e. n (inr (inr (inr e)))),
      ne_eqb _ 13 (λ e. n (inr (inl e))),
      ne_eqb _ 10 (λ e. n (inl e)),
    )
