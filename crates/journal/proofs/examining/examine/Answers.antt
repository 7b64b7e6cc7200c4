-- `journal::examining::examine` meets its contract. Assumes nothing.
use Prim.Native.Nat.{◌+◌}
use native.Mathlib.Omega.{arith}
use Rattle.journal.proofs.BelowLaws.{all-groups}
use Rattle.journal.proofs.examining.examine.Goals as goal

pub returns : goal.returns
returns c =
    let l = c.loop-low in
    let a = c.args in
    record {
      is = all-groups a.members l.low a.file.now l.j c.loop-low-test.false l.invariant;
      few = l.invariant.few;
      there = l.invariant.there;
      whole = λ e. omega (arith, l.invariant.ends e, l.invariant.there);
    }

pub returns-2 : goal.returns-2
returns-2 c =
    let g = c.examine_group-j in
    let a = c.args in
    record {
      is = all-groups a.members (c.loop-low.low + 64) a.file.now g.result (omega arith) g.ensures;
      few = g.ensures.few;
      there = g.ensures.there;
      whole = λ e. omega (arith, g.ensures.ends e, g.ensures.there);
    }
