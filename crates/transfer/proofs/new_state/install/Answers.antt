-- `transfer::new_state::install` meets its contract. Assumes nothing.
use mathlib.Core.Path.{sym, ◌∙◌, ap}
use mathlib.Core.Bool.{not, true}
use native.Mathlib.Omega.{arith}
use Prim.Native.Nat.{◌-◌}
use Rattle.state.specs.State.{normal_in, with_log}
use Rattle.book.specs.Memory.{runs}
use Rattle.transfer.specs.NewState.{installed}
use Rattle.transfer.proofs.NewStateLaws.{rises-fit, append-fits, breaks, short, extends}
use Rattle.transfer.proofs.new_state.install.Goals as goal

pub rises_after-requires : goal.rises_after-requires
rises_after-requires c =
    let a = c.args in
    let h = c.requires in
    rises-fit a.s (runs a.log.now a.results.now a.totals.now) a.s.commit.0 (a.p.end.0 - a.p.start.0)
    a.part.now h.0 h.1.1.1 h.0.commit-le

pub returns-then-not-rises_after : goal.returns-then-not-rises_after
unfolding installed
returns-then-not-rises_after c =
    let a = c.args in
    breaks a.s (with_log (normal_in a.s a.s.view) a.p.end a.s.commit) a.s.commit.0 (a.p.end.0 - a.p.start.0)
    a.p true a.part.now (runs a.log.now a.results.now a.totals.now) a.out.now _
    (ap not (sym c.rises_after.ensures) ∙ (ap not c.if-not-rises_after.true)) c.refused.ensures

pub returns-then-out-lt16 : goal.returns-then-out-lt16
unfolding installed
returns-then-out-lt16 c =
    let a = c.args in
    short a.s (with_log (normal_in a.s a.s.view) a.p.end a.s.commit) a.s.commit.0 (a.p.end.0 - a.p.start.0)
    a.p true a.part.now (runs a.log.now a.results.now a.totals.now) a.out.now _
    (ap not (sym c.rises_after.ensures) ∙ (ap not c.if-not-rises_after.false)) c.if-out-lt16.true
    c.refused-then-out-lt16.ensures

pub append_part-requires : goal.append_part-requires
append_part-requires c =
    let a = c.args in
    let h = c.requires in
    append-fits a.s (runs a.log.now a.results.now a.totals.now) a.s.commit.0 (a.p.end.0 - a.p.start.0)
    a.part.now h.0 h.1.1.1 (omega (arith, h.1.0, h.1.1.0.start-le, h.1.1.0.end-le))

pub returns : goal.returns
unfolding installed
returns c =
    let a = c.args in
    extends a.s (with_log (normal_in a.s a.s.view) a.p.end a.s.commit) a.s.commit.0 (a.p.end.0 - a.p.start.0)
    a.p true a.part.now (runs a.log.now a.results.now a.totals.now) a.out.now _ _ _
    (ap not (sym c.rises_after.ensures) ∙ (ap not c.if-not-rises_after.false))
    c.if-out-lt16.false
    c.append_part.ensures
    (rw (c.with_log-t.ensures, c.enter_normal.ensures))
    c.acknowledge.ensures
