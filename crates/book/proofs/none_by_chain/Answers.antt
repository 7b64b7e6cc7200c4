-- `book::none_by_chain` meets its contract. Assumes nothing.
use mathlib.Core.Path.{◌≡◌, refl, sym, ◌∙◌}
use mathlib.Core.Bool.{true}
use Prim.Native.Nat.{◌+◌, ◌-◌}
use native.Mathlib.Nat.{sub-zero}
use native.Mathlib.Numerals.{add-one}
use native.Mathlib.Omega.{arith}
use Rattle.numbers.specs.Words.{◌and◌}
use Rattle.entries.specs.Entries.{entries}
use Rattle.entries.specs.Rising.{follows}
use Rattle.entries.proofs.RisingLaws.{from_end}
use Rattle.entries.proofs.ChainLaws.{NoneOf, linked-start, linked-next, sought-start, sought-next}
use Rattle.entries.proofs.PairLaws.{rises-back}
use Rattle.book.specs.Log.{none_breaks}
use Rattle.book.proofs.LogLaws.{none-next}
use Rattle.book.proofs.FirstLaws.{first_from_end, follows-none, follows-over, follows-broken}
use Rattle.book.proofs.none_by_chain.Goals as goal
use Rattle.book.proofs.none_by_chain.Goals.{in_default, in-Some+else-looks-eq0+then-read_u64-e+else-read_u64-e-2}

pub loop-m-init : goal.loop-m-init
loop-m-init c = let a = c.args in rw c.new-chains.ensures (linked-start (first_from_end a.part.now a.k))

pub loop-m-preserved : goal.loop-m-preserved
loop-m-preserved c =
    let a = c.args in
    let l = c.loop-m in
    rw (c.push.ensures, c.read_u64.ensures) (linked-next (first_from_end a.part.now a.k) l.chains l.m l.invariant (omega arith))

pub pairs-init : goal.pairs-init
pairs-init c =
    let e : c.loop-m.m ≡ c.args.k = omega arith in
    (refl, rw e at c.loop-m.invariant, rw sub-zero)

pub loop-at-init : goal.loop-at-init
loop-at-init c =
    let a = c.args in
    (c.pairs.invariant.0, rw c.latest-at.ensures (sought-start (first_from_end a.part.now a.k) c.loop-m.chains a.k c.pairs.invariant.1 c.entry_in-e.result.client))

pub loop-at-preserved : goal.loop-at-preserved
loop-at-preserved c =
    let a = c.args in
    let s = rw c.in-Some.is at c.loop-at.invariant.1 in
    let n = sought-next (first_from_end a.part.now a.k) c.loop-m.chains a.k c.pairs.invariant.1 c.entry_in-e.result.client c.in-Some.j s (λ e. c.if-read_u64-e.false (c.read_u64-in-Some.ensures ∙ e)) in
    (c.loop-at.invariant.0, rw c.earlier-at.ensures n)

pub pairs-preserved : goal.pairs-preserved
unfolding ◌and◌
pairs-preserved c =
    let a = c.args in
    let p = c.pairs in
    let l = c.loop-at in
    let x = c.entry_in-e in
    let f : follows x.result (entries a.k a.part.now) ≡ true =
    elim c.match-at.branch [
      | in_default w ↦ follows-none x.result a.k a.part.now (rw w.in_default.is at l.invariant.1).none
      | in-Some+else-looks-eq0+then-read_u64-e+else-read_u64-e-2 w ↦
          let j = w.in-Some.j in
          let s = rw w.in-Some.is at l.invariant.1 in
          let none : NoneOf (first_from_end a.part.now a.k) x.result.client (j + 1) a.k = rw add-one s.none in
          follows-over x.result a.k a.part.now j (rises-back a.k a.part.now c.requires.1.1.1.1) (omega (arith, s.low)) none
          (sym w.read_u64-in-Some.ensures ∙ w.if-read_u64-e.true) (rw (← w.read_u64-then-read_u64-e.ensures) w.if-read_u64-e-2.false)
    ] in
    (l.invariant.0, p.invariant.1, p.invariant.2 ∙ none-next a.n a.log.now p.i x.result (entries a.k a.part.now) c.pairs-test.true x.ensures ∙ rw f)

pub returns-after-pairs : goal.returns-after-pairs
unfolding none_breaks
returns-after-pairs c =
    let p = c.pairs in
    let a = c.args in
    let e : p.i ≡ a.n = omega arith in
    p.invariant.0 ∙ sym (p.invariant.2 ∙ rw (e, from_end))

pub returns-then-read_u64-e-2 : goal.returns-then-read_u64-e-2
unfolding ◌and◌
returns-then-read_u64-e-2 c =
    let a = c.args in
    let p = c.pairs in
    let x = c.entry_in-e in
    let s = rw c.in-Some.is at c.loop-at.invariant.1 in
    let f = follows-broken x.result a.k a.part.now (a.k - 1 - c.in-Some.j) (omega (arith, s.low)) (sym c.read_u64-in-Some.ensures ∙ c.if-read_u64-e.true) (rw (← c.read_u64-then-read_u64-e.ensures) c.if-read_u64-e-2.true) in
    sym (p.invariant.2 ∙ none-next a.n a.log.now p.i x.result (entries a.k a.part.now) c.pairs-test.true x.ensures ∙ rw f)
