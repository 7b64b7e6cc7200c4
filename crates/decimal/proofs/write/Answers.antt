-- `decimal::write` meets its contract. The invariant: the figures of x but the first i stand in the area, and those first i are the figures of y.
-- Assumes nothing.
use native.Mathlib.Omega.{arith}
use Rattle.decimal.proofs.DoneLaws.{done-small, done_more, done_end}
use Rattle.decimal.proofs.DecimalLaws.{decimal-there}
use Rattle.decimal.proofs.write.Goals as goal

pub loop-i-preserved : goal.loop-i-preserved
loop-i-preserved c =
    let a = c.args in
    let l = c.loop-i in
    done_more a.area.now l.area a.x l.y l.i c.requires l.invariant c.loop-i-test.true

pub overflow_add-area-2 : goal.overflow_add-area-2
overflow_add-area-2 c =
    let a = c.args in
    let l = c.loop-i in
    omega (arith, done-small a.area.now l.area a.x l.y l.i l.invariant c.loop-i-test.false)

pub overflow_cast-area-2 : goal.overflow_cast-area-2
overflow_cast-area-2 c =
    let a = c.args in
    let l = c.loop-i in
    omega (arith, done-small a.area.now l.area a.x l.y l.i l.invariant c.loop-i-test.false)

pub bounds-area-0 : goal.bounds-area-0
bounds-area-0 c = omega (arith, decimal-there c.args.x, c.loop-i.invariant.same)

pub returns : goal.returns
returns c =
    let a = c.args in
    let l = c.loop-i in
    record {
      bytes = done_end a.area.now l.area a.x l.y l.i c.requires l.invariant c.loop-i-test.false;
      count = c.width-k.ensures.0;
    }
