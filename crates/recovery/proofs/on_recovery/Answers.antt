-- `recovery::on_recovery` meets its contract. Assumes nothing.
use mathlib.Core.Path.{sym, ap, ◌∙◌}
use mathlib.Core.Bool.{not}
use native.Mathlib.Omega.{arith}
use Rattle.config.proofs.SetupLaws.{sized}
use Rattle.recovery.proofs.RecoveryLaws.{starts-change, silent, leader-answers, backup-answers}
use Rattle.recovery.proofs.on_recovery.Goals as goal

pub returns-then-s-v : goal.returns-then-s-v
returns-then-s-v c =
    let a = c.args in
    starts-change a.s a.r a.x a.v a.log.now a.out.now _ c.if-s-v.true
    c.start_view_change.ensures

pub returns-then-not-is_normal : goal.returns-then-not-is_normal
returns-then-not-is_normal c =
    let a = c.args in
    silent a.s a.r a.x a.v a.log.now a.out.now c.if-s-v.false _
    (ap not (sym c.is_normal.ensures) ∙ (ap not c.if-not-is_normal.true)) c.done.ensures

pub is_primary-requires : goal.is_primary-requires
is_primary-requires c = let z = sized c.args.s.setup c.requires.sized in omega (arith, z.three)

pub returns-then-is_primary : goal.returns-then-is_primary
returns-then-is_primary c =
    let a = c.args in
    leader-answers a.s a.r a.x a.v a.log.now a.out.now
    c.if-s-v.false
    (ap not (sym c.is_normal.ensures) ∙ (ap not c.if-not-is_normal.false))
    _ (sym c.is_primary.ensures ∙ c.if-is_primary.true)
    c.answer_full.ensures

pub returns : goal.returns
returns c =
    let a = c.args in
    backup-answers a.s a.r a.x a.v a.log.now a.out.now
    c.if-s-v.false
    (ap not (sym c.is_normal.ensures) ∙ (ap not c.if-not-is_normal.false))
    _ (sym c.is_primary.ensures ∙ c.if-is_primary.false)
    c.answer_bare.ensures
