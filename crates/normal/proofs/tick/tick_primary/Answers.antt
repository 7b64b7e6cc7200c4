-- `normal::tick::tick_primary` meets its contract. Assumes nothing.
use native.Mathlib.Omega.{arith}
use lib.ListN.{length}
use Rattle.normal.proofs.TickLaws.{beat-in, beat-rest, tick-small, tick-short, ticks}
use Rattle.normal.proofs.SendLaws.{beat-asks}
use Rattle.normal.proofs.tick.tick_primary.Goals as goal

pub returns-then-out-tick_len : goal.returns-then-out-tick_len
returns-then-out-tick_len c =
    let a = c.args in
    tick-short a.s a.log.now c.requires a.out.now _ c.tick_len.ensures _ c.if-out-tick_len.true
    c.refused.ensures

pub broadcast-w-requires : goal.broadcast-w-requires
broadcast-w-requires c =
    let a = c.args in
    beat-asks a.s.setup c.requires.sized _ _ _ (length a.out.now)
    (omega (arith, c.tick_len.ensures, c.if-out-tick_len.false))

pub slice_bounds-send_prepares-count : goal.slice_bounds-send_prepares-count
slice_bounds-send_prepares-count c =
    let a = c.args in
    let n = c.tick_len.ensures in
    let l = c.if-out-tick_len.false in
    beat-in a.s a.log.now c.requires a.out.now _ n l _ _ c.broadcast-w.ensures

pub slice_bounds-send_prepares-start : goal.slice_bounds-send_prepares-start
slice_bounds-send_prepares-start c = omega (
  arith,
  (let a = c.args in
      let n = c.tick_len.ensures in
      let l = c.if-out-tick_len.false in
      beat-in a.s a.log.now c.requires a.out.now _ n l _ _ c.broadcast-w.ensures),
)

pub send_prepares-p-requires : goal.send_prepares-p-requires
send_prepares-p-requires c =
    let a = c.args in
    let n = c.tick_len.ensures in
    let l = c.if-out-tick_len.false in
    (c.requires, beat-rest a.s a.log.now c.requires a.out.now _ n l _ _ c.broadcast-w.ensures)

pub overflow_add-w : goal.overflow_add-w
overflow_add-w c =
    let a = c.args in
    let n = c.tick_len.ensures in
    let l = c.if-out-tick_len.false in
    let p = c.send_prepares-p.ensures in
    omega (arith, tick-small a.s a.log.now c.requires a.out.now _ n l _ _ c.broadcast-w.ensures _ _ p)

pub returns : goal.returns
returns c =
    let a = c.args in
    let n = c.tick_len.ensures in
    let l = c.if-out-tick_len.false in
    let p = c.send_prepares-p.ensures in
    ticks a.s a.log.now c.requires a.out.now _ n l _ _ c.broadcast-w.ensures _ _ p _ _ _
    c.tick-t.ensures c.with_clock.ensures c.done.ensures
