-- `decimal::read` meets its contract. The invariant: the whole text is what its first figures, which stand for x, leave of it.
-- Assumes nothing.
use mathlib.Core.Path.{sym, ◌∙◌}
use native.Mathlib.Omega.{arith}
use borrow.Author.Tests.{eqb-true, eqb-false}
use Rattle.decimal.proofs.LeftLaws.{empty-none, leading-none, left-more, left-all, low-none, high-none, next-none}
use Rattle.decimal.proofs.read.Goals as goal

pub returns-then-is_empty : goal.returns-then-is_empty
returns-then-is_empty c =
    let a = c.args in
    sym (empty-none a.most a.s.now (eqb-true _ _ (sym c.is_empty.ensures ∙ c.if-is_empty.true)))

pub returns-then-leading_zero : goal.returns-then-leading_zero
returns-then-leading_zero c =
    let a = c.args in
    sym (leading-none a.most a.s.now (sym c.leading_zero.ensures ∙ c.if-leading_zero.true))

pub returns-in_err-d : goal.returns-in_err-d
returns-in_err-d c =
    let l = c.loop-b in
    let a = c.args in
    c.from_residual.ensures ∙ sym (low-none a.most a.s.now l.b-index l.x c.loop-b-test.true (omega (arith, c.in_err-d.ensures)) l.invariant)

pub returns-then-d-gt9 : goal.returns-then-d-gt9
returns-then-d-gt9 c =
    let l = c.loop-b in
    let a = c.args in
    sym (high-none a.most a.s.now l.b-index l.x c.loop-b-test.true (omega (arith, c.in_ok-d.ensures)) l.invariant)

pub returns-in_err-checked_mul : goal.returns-in_err-checked_mul
returns-in_err-checked_mul c =
    let l = c.loop-b in
    let a = c.args in
    c.from_residual-in_err-checked_mul.ensures
    ∙ sym (next-none a.most a.s.now l.b-index l.x c.loop-b-test.true (omega (arith, c.in_err-checked_mul.ensures, c.ranges.most)) l.invariant)

pub returns-in_err-x : goal.returns-in_err-x
returns-in_err-x c =
    let l = c.loop-b in
    let a = c.args in
    c.from_residual-in_err-x.ensures
    ∙ sym (next-none a.most a.s.now l.b-index l.x c.loop-b-test.true (omega (arith, c.in_ok-d.ensures, c.in_ok-checked_mul.ensures, c.from.ensures, c.in_err-x.ensures, c.ranges.most)) l.invariant)

pub loop-b-preserved : goal.loop-b-preserved
loop-b-preserved c =
    let l = c.loop-b in
    let a = c.args in
    left-more a.s.now l.b-index l.x c.in_ok-d.d c.in_ok-x.x c.loop-b-test.true (omega (arith, c.in_ok-d.ensures)) (omega arith)
    (omega (arith, c.in_ok-checked_mul.ensures, c.from.ensures, c.in_ok-x.ensures)) l.invariant

pub returns : goal.returns
returns c =
    let l = c.loop-b in
    let a = c.args in
    let n = eqb-false _ _ (sym c.is_empty.ensures ∙ c.if-is_empty.false) in
    c.then_some.ensures ∙ left-all a.most a.s.now l.b-index l.x (omega arith) (omega (arith, n)) (sym c.leading_zero.ensures ∙ c.if-leading_zero.false) l.invariant
