-- `csv_table::fields::stretch` meets its contract. The invariant: the whole stretch is the first i bytes and the stretch of what is left.
-- Assumes nothing.
use mathlib.Core.Path.{sym, ◌∙◌}
use native.Mathlib.Omega.{arith}
use native.Mathlib.Numerals.{add-one}
use Rattle.csv_table.proofs.FieldLaws.{stretch-stop, stretch-next, stretch-end}
use Rattle.csv_table.proofs.fields.stretch.Goals as goal

pub loop-i-init : goal.loop-i-init
loop-i-init c = omega arith

pub returns-then-stops : goal.returns-then-stops
returns-then-stops c =
    let e = sym c.stops.ensures ∙ c.if-stops.true in
    let z = stretch-stop c.args.s.now c.loop-i.i c.loop-i-test.true e in omega (arith, c.loop-i.invariant)

pub loop-i-preserved : goal.loop-i-preserved
loop-i-preserved c =
    let e = sym c.stops.ensures ∙ c.if-stops.false in
    let z = stretch-next c.args.s.now c.loop-i.i c.loop-i-test.true e in rw add-one (omega (arith, c.loop-i.invariant))

pub returns : goal.returns
returns c = let z = stretch-end c.args.s.now c.loop-i.i c.loop-i-test.false in omega (arith, c.loop-i.invariant)
