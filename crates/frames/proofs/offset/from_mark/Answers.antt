-- `frames::offset::from_mark` meets its contract. Assumes nothing.
use mathlib.Core.Path.{sym, ◌∙◌}
use Prim.Native.Nat.{◌≤◌}
use native.Mathlib.Omega.{arith}
use borrow.Author.Tests.{ne_eqb}
use lib.ListN.{length}
use Rattle.numbers.specs.Words.{when◌then◌else◌}
use Rattle.offsets.specs.Rules.{end, between, number_reach}
use Rattle.offsets.proofs.ReadLaws.{past-number, short-number, place-le}
use Rattle.frames.specs.FrameRules.{log_rule, state_rule}
use Rattle.frames.proofs.offset.from_mark.Goals as goal

pub returns-then-n-eq17 : goal.returns-then-n-eq17
unfolding state_rule number_reach when◌then◌else◌
returns-then-n-eq17 c = rw c.if-n-eq17.true c.number.ensures

pub returns-then-op-at : goal.returns-then-op-at
unfolding state_rule when◌then◌else◌
returns-then-op-at c =
    let a = c.args in
    rw (ne_eqb _ _ c.if-n-eq17.false)
    (sym (short-number a.at a.s.now _ 1 1 1 (λ x. log_rule a.count) c.number-op.ensures (omega (arith, c.if-op-at.true))))

pub returns : goal.returns
unfolding state_rule when◌then◌else◌
returns c =
    let a = c.args in
    rw (ne_eqb _ _ c.if-n-eq17.false)
    (c.log.ensures
    ∙ sym (past-number a.at a.s.now _ 1 1 1 (λ x. log_rule a.count) c.number-op.ensures (omega (arith, c.number-op.ensures, c.if-op-at.false))))

pub log-requires : goal.log-requires
unfolding number_reach
log-requires c =
    let log-le : c.number-op.result ≤ length c.args.s.now = omega (arith, c.number-op.ensures, place-le (between 1 0 1 1 (λ v. end)) c.args.at c.args.s.now c.requires) in
    log-le
