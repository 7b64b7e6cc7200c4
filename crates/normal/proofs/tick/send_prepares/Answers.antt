-- `normal::tick::send_prepares` meets its contract. Assumes nothing.
use native.Mathlib.Omega.{arith}
use Rattle.normal.proofs.TickLaws.{sent-none, turn_in, turn-rest, turn_small, turn}
use Rattle.normal.proofs.tick.send_prepares.Goals as goal

pub loop-i-init : goal.loop-i-init
loop-i-init c =
    sent-none c.args.s c.args.log.now c.requires.0 c.args.out.now

pub slice_bounds-send_prepare-count : goal.slice_bounds-send_prepare-count
slice_bounds-send_prepare-count c =
    let a = c.args in
    let l = c.loop-i in
    turn_in a.s a.log.now c.requires.0 a.out.now l.out l.at l.i c.requires.1 l.invariant c.loop-i-test.true

pub slice_bounds-send_prepare-start : goal.slice_bounds-send_prepare-start
slice_bounds-send_prepare-start c = omega (
  arith,
  (let a = c.args in
      let l = c.loop-i in
      turn_in a.s a.log.now c.requires.0 a.out.now l.out l.at l.i c.requires.1 l.invariant c.loop-i-test.true),
)

pub send_prepare-at-requires : goal.send_prepare-at-requires
send_prepare-at-requires c =
    let a = c.args in
    let l = c.loop-i in
    let g = c.loop-i-test.true in
    (c.requires.0, (g, turn-rest a.s a.log.now c.requires.0 a.out.now l.out l.at l.i c.requires.1 l.invariant g))

pub overflow_add-at : goal.overflow_add-at
overflow_add-at c =
    let a = c.args in
    let l = c.loop-i in
    let g = c.loop-i-test.true in
    let x = c.send_prepare-at.ensures in
    omega (arith, turn_small a.s a.log.now c.requires.0 a.out.now l.out l.at l.i c.requires.1 l.invariant g _ _ x)

pub loop-i-preserved : goal.loop-i-preserved
loop-i-preserved c =
    let a = c.args in
    let l = c.loop-i in
    let g = c.loop-i-test.true in
    let x = c.send_prepare-at.ensures in
    turn a.s a.log.now c.requires.0 a.out.now l.out l.at l.i c.requires.1 l.invariant g _ _ x
