-- `voting::tick::repeat` meets its contract. Assumes nothing.
use Rattle.voting.proofs.TickLaws.{clocked-sized, asks-again, sends-again, calls-again}
use Rattle.book.specs.Memory.{memory}
use native.Mathlib.Omega.{arith}
use Rattle.config.proofs.SetupLaws.{sized}
use Rattle.voting.proofs.tick.repeat.Goals as goal

pub ask_state-requires : goal.ask_state-requires
ask_state-requires c =
    let z = sized c.with_clock-t.result.setup (clocked-sized c.args.s c.args.c _ c.with_clock-t.ensures c.requires.sound.sized) in
    omega (arith, z.three)

pub returns-then-s : goal.returns-then-s
returns-then-s c =
    let a = c.args in
    let m = memory a.log.now a.results.now a.totals.now a.acks.now a.stored.now a.out.now a.reps.now in
    asks-again a.s a.c m _ c.with_clock-t.ensures c.if-s.true _ _ c.ask_state.ensures

pub returns-then-s-2 : goal.returns-then-s-2
returns-then-s-2 c =
    let a = c.args in
    let m = memory a.log.now a.results.now a.totals.now a.acks.now a.stored.now a.out.now a.reps.now in
    sends-again a.s a.c m _ c.with_clock-t.ensures c.if-s.false c.if-s-2.true _ c.send_do_view_change.ensures

pub returns : goal.returns
returns c =
    let a = c.args in
    let m = memory a.log.now a.results.now a.totals.now a.acks.now a.stored.now a.out.now a.reps.now in
    calls-again a.s a.c m _ c.with_clock-t.ensures c.if-s.false c.if-s-2.false _ _ c.call.ensures
