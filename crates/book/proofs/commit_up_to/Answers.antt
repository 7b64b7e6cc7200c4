-- `book::commit_up_to` meets its contract. Assumes nothing.
use mathlib.Core.Path.{◌≡◌, refl, ◌∙◌}
use Prim.Native.Nat.{◌+◌, ◌-◌}
use native.Mathlib.Nat.{sub_self}
use native.Mathlib.Omega.{arith}
use Rattle.book.specs.Memory.{money}
use Rattle.book.proofs.RunLaws.{commit-none, commit-more, takings-none, takings-more}
use Rattle.book.proofs.commit_up_to.Goals as goal

pub loop-i-init : goal.loop-i-init
loop-i-init c =
    let a = c.args in
    let x = money a.results.now a.totals.now in
    (refl, refl, rw (sub_self a.from) (commit-none a.members a.log.now a.from x), rw (sub_self a.from) (takings-none a.members a.log.now a.from x a.takings))

pub loop-i-preserved : goal.loop-i-preserved
loop-i-preserved c =
    let a = c.args in
    let l = c.loop-i in
    let k = l.i - a.from in
    let n : l.i + 1 - a.from ≡ k + 1 = omega arith in
    let j : l.i ≡ a.from + k = omega arith in
    let e = c.entry_in in
    let o = c.commit_one-sum in (
      o.auto.results ∙ l.invariant.0,
      o.auto.totals ∙ l.invariant.1,
      rw n (commit-more a.members a.log.now a.from k _ _ _ e.result l.invariant.2 (rw j at e.ensures) (rw j at o.ensures.0)),
      rw n (takings-more a.members a.log.now a.from k _ _ a.takings l.sum _ e.result l.invariant.2 l.invariant.3 (rw j at e.ensures)
          o.ensures.1),
    )

pub returns : goal.returns
returns c =
    let e : c.loop-i.i - c.args.from ≡ c.args.count = omega arith in
    (rw (← e) c.loop-i.invariant.2, rw (← e) c.loop-i.invariant.3)
