-- `state_bytes::part::reports_ok` meets its contract. Assumes nothing.
use mathlib.Core.Path.{◌≡◌, sym, ap, ◌∙◌}
use Prim.Native.Nat.{ℕ, suc, ◌+◌, ◌-◌, ◌*◌}
use native.Mathlib.Omega.{arith}
use lib.ListN.{drop}
use Rattle.state_bytes.specs.Layout.{all_reports_ok}
use Rattle.state_bytes.proofs.ReadLaws.{reports-next, reports-stop, reports-stop₂}
use Rattle.state_bytes.proofs.part.reports_ok.Goals as goal

pub returns-then-not-flag_ok : goal.returns-then-not-flag_ok
returns-then-not-flag_ok c =
    let l = c.loop-i in
    let s = c.args.run.now in
    let m : 7 - l.i ≡ suc (7 - (l.i + 1)) = omega arith in
    sym (l.invariant ∙ rw m (reports-stop s (c.args.at + 14 * l.i) (7 - (l.i + 1)) (sym c.flag_ok.ensures ∙ c.if-not-flag_ok.true)))

pub returns-then-not-flag_ok-2 : goal.returns-then-not-flag_ok-2
returns-then-not-flag_ok-2 c =
    let l = c.loop-i in
    let s = c.args.run.now in
    let m : 7 - l.i ≡ suc (7 - (l.i + 1)) = omega arith in
    sym (l.invariant ∙ rw m (reports-stop₂ s (c.args.at + 14 * l.i) (7 - (l.i + 1)) (sym c.flag_ok.ensures ∙ c.if-not-flag_ok.false) (sym c.flag_ok-in-loop-i.ensures ∙ c.if-not-flag_ok-2.true)))

pub loop-i-preserved : goal.loop-i-preserved
loop-i-preserved c =
    let l = c.loop-i in
    let s = c.args.run.now in
    let m : 7 - l.i ≡ suc (7 - (l.i + 1)) = omega arith in
    let e : c.args.at + 14 * l.i + 14 ≡ c.args.at + 14 * (l.i + 1) = omega arith in
    l.invariant
    ∙ rw m (reports-next s (c.args.at + 14 * l.i) (7 - (l.i + 1)) (sym c.flag_ok.ensures ∙ c.if-not-flag_ok.false) (sym c.flag_ok-in-loop-i.ensures ∙ c.if-not-flag_ok-2.false))
    ∙ ap (λ (p : ℕ). all_reports_ok (7 - (l.i + 1)) (drop p s)) e

pub returns : goal.returns
unfolding all_reports_ok
returns c =
    let l = c.loop-i in
    let z : 7 - l.i ≡ 0 = omega arith in
    sym (l.invariant ∙ rw z)
