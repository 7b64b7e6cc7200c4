-- `do_view_change::record::send_do_view_change` meets its contract. Assumes nothing.
use Rattle.do_view_change.proofs.TellLaws.{leads-so, follows_so}
use Rattle.book.specs.Memory.{memory}
use native.Mathlib.Omega.{arith}
use Rattle.config.proofs.SetupLaws.{sized}
use Rattle.do_view_change.proofs.record.send_do_view_change.Goals as goal

pub is_primary-requires : goal.is_primary-requires
is_primary-requires c =
    let z = sized c.args.t.setup c.requires.sound.sized in
    omega (arith, z.three)

pub returns-then-is_primary : goal.returns-then-is_primary
returns-then-is_primary c =
    let a = c.args in
    let m = memory a.log.now a.results.now a.totals.now a.acks.now a.stored.now a.out.now a.reps.now in
    leads-so a.s a.t a.first m _ c.is_primary.ensures c.if-is_primary.true _ c.record_own.ensures

pub returns : goal.returns
returns c =
    let a = c.args in
    let m = memory a.log.now a.results.now a.totals.now a.acks.now a.stored.now a.out.now a.reps.now in
    follows_so a.s a.t a.first m _ c.is_primary.ensures c.if-is_primary.false _ _ c.tell_primary.ensures
