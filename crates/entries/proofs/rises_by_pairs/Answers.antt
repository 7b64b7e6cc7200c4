-- `entries::rises_by_pairs` meets its contract. Assumes nothing.
use mathlib.Core.Path.{◌≡◌, sym, ◌∙◌}
use mathlib.Core.Bool.{true, false}
use Prim.Native.Nat.{◌*◌}
use native.Mathlib.Omega.{arith}
use lib.ListN.{drop}
use Rattle.numbers.specs.Words.{◌and◌}
use Rattle.entries.specs.Entries.{entry_of}
use Rattle.entries.specs.Rising.{rising, follows, breaks_at}
use Rattle.entries.proofs.RisingLaws.{rising-next, follows_next, follows-stop, from_end}
use Rattle.entries.proofs.rises_by_pairs.Goals as goal

pub loop-j-init : goal.loop-j-init
loop-j-init c =
    let p = c.pairs in
    let a = c.args in
    (p.invariant.0, p.invariant.1 ∙ rw c.entry_at-e.ensures (rising-next a.k a.s.now p.i c.pairs-test.true))

pub loop-j-preserved : goal.loop-j-preserved
loop-j-preserved c =
    let l = c.loop-j in
    let e = c.entry_at-e.result in
    let a = c.args in
    let f : breaks_at e (entry_of (drop (32 * l.j) a.s.now)) ≡ false =
    sym c.breaks.ensures ∙ c.if-breaks.false in
    (l.invariant.0, l.invariant.1 ∙ rw (follows_next e a.k a.s.now l.j c.loop-j-test.true f))

pub pairs-preserved : goal.pairs-preserved
unfolding follows ◌and◌
pairs-preserved c =
    let l = c.loop-j in
    let e : l.j ≡ c.args.k = omega arith in
    (l.invariant.0, l.invariant.1 ∙ rw (e, from_end))

pub returns-after-pairs : goal.returns-after-pairs
unfolding rising
returns-after-pairs c =
    let p = c.pairs in
    let e : p.i ≡ c.args.k = omega arith in
    p.invariant.0 ∙ sym (p.invariant.1 ∙ rw (e, from_end))

pub returns-then-breaks : goal.returns-then-breaks
unfolding ◌and◌
returns-then-breaks c =
    let l = c.loop-j in
    let e = c.entry_at-e.result in
    let a = c.args in
    let f : breaks_at e (entry_of (drop (32 * l.j) a.s.now)) ≡ true =
    sym c.breaks.ensures ∙ c.if-breaks.true in
    sym (l.invariant.1 ∙ rw (follows-stop e a.k a.s.now l.j c.loop-j-test.true f))
