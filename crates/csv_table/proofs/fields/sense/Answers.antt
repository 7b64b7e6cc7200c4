-- `csv::fields::sense` meets its contract: its match is the definition's choice.
-- Assumes nothing.
use borrow.Author.Tests.{eq-eqb, ne_eqb}
use Rattle.numbers.specs.Words.{when◌then◌else◌}
use Rattle.csv_table.specs.Fields.{sense}
use Rattle.csv_table.proofs.fields.sense.Goals as goal

pub returns-then-i-eq0 : goal.returns-then-i-eq0
unfolding sense when◌then◌else◌
returns-then-i-eq0 c = rw (eq-eqb _ _ c.if-i-eq0.true) c.header_in.ensures

pub returns-in-0 : goal.returns-in-0
unfolding sense when◌then◌else◌
returns-in-0 c = rw (ne_eqb _ _ c.if-i-eq0.false, c.in-0.is) c.op_in.ensures

pub returns-in-3 : goal.returns-in-3
unfolding sense when◌then◌else◌
returns-in-3 c = rw (ne_eqb _ _ c.if-i-eq0.false, c.in-3.is) c.kind_in.ensures

pub returns-in-4 : goal.returns-in-4
unfolding sense when◌then◌else◌
returns-in-4 c = rw (ne_eqb _ _ c.if-i-eq0.false, c.in-4.is) c.read.ensures

pub returns-in-5 : goal.returns-in-5
unfolding sense when◌then◌else◌
returns-in-5 c = rw (ne_eqb _ _ c.if-i-eq0.false, c.in-5.is) c.cents_in.ensures

pub returns-in_default : goal.returns-in_default
unfolding sense when◌then◌else◌
returns-in_default c =
    let r = c.in_default.in_default-own.rest in
    rw (
      ne_eqb _ _ c.if-i-eq0.false,
      ne_eqb _ _ r.0.0.0.1,
      ne_eqb _ _ r.0.0.1,
      ne_eqb _ _ r.0.1,
      ne_eqb _ _ r.1,
    )
    c.read-in_default.ensures
