-- `book::none_by_pairs` meets its contract. Assumes nothing.
use mathlib.Core.Path.{◌≡◌, sym, ◌∙◌}
use mathlib.Core.Bool.{true, false}
use Prim.Native.Nat.{◌*◌}
use native.Mathlib.Omega.{arith}
use native.Mathlib.Nat.{sub-zero}
use lib.ListN.{drop}
use Rattle.numbers.specs.Words.{◌and◌}
use Rattle.entries.specs.Entries.{entry_of, entries}
use Rattle.entries.specs.Rising.{follows, breaks_at}
use Rattle.entries.proofs.RisingLaws.{follows_next, follows-stop, from_end}
use Rattle.book.specs.Log.{none_breaks}
use Rattle.book.proofs.LogLaws.{none-next}
use Rattle.book.proofs.none_by_pairs.Goals as goal

pub loop-j-init : goal.loop-j-init
loop-j-init c =
    let a = c.args in
    let p = c.pairs in
    let t = c.pairs-test.true in
    let e = none-next a.n a.log.now p.i c.entry_in-e.result (entries a.k a.part.now) t c.entry_in-e.ensures in
    (p.invariant.0, rw (sub-zero, ← e) p.invariant.1)

pub loop-j-preserved : goal.loop-j-preserved
loop-j-preserved c =
    let l = c.loop-j in
    let e = c.entry_in-e.result in
    let a = c.args in
    let f : breaks_at e (entry_of (drop (32 * l.j) a.part.now)) ≡ false =
    sym c.breaks.ensures ∙ c.if-breaks.false in
    (l.invariant.0, rw (← follows_next e a.k a.part.now l.j c.loop-j-test.true f) l.invariant.1)

pub pairs-preserved : goal.pairs-preserved
unfolding follows ◌and◌
pairs-preserved c =
    let l = c.loop-j in
    let a = c.args in
    let e : l.j ≡ a.k = omega arith in
    (l.invariant.0, rw (e, from_end) at l.invariant.1)

pub returns-after-pairs : goal.returns-after-pairs
unfolding none_breaks
returns-after-pairs c =
    let p = c.pairs in
    let a = c.args in
    let e : p.i ≡ a.n = omega arith in
    p.invariant.0 ∙ sym (p.invariant.1 ∙ rw (e, from_end))

pub returns-then-breaks : goal.returns-then-breaks
unfolding ◌and◌
returns-then-breaks c =
    let l = c.loop-j in
    let e = c.entry_in-e.result in
    let a = c.args in
    let f : breaks_at e (entry_of (drop (32 * l.j) a.part.now)) ≡ true =
    sym c.breaks.ensures ∙ c.if-breaks.true in
    sym (rw (follows-stop e a.k a.part.now l.j c.loop-j-test.true f) at l.invariant.1)
