-- `entries::rises_by_chain` meets its contract. Assumes nothing.
use mathlib.Core.Path.{◌≡◌, refl, sym, ◌∙◌}
use Prim.Native.Nat.{◌+◌}
use native.Mathlib.Numerals.{add-one}
use native.Mathlib.Omega.{arith}
use Rattle.entries.proofs.ChainLaws.{NoneOf, linked-start, linked-next, sought-start, sought-next}
use Rattle.entries.proofs.PairLaws.{client_at, rises-true, rises-false, grown-none, grown-over}
use Rattle.entries.proofs.rises_by_chain.Goals as goal
use Rattle.entries.proofs.rises_by_chain.Goals.{in-Some+else-looks-eq0+then-read_u64-c+else-r-read_u64, in_default}

pub pairs-init : goal.pairs-init
pairs-init c = (refl, rw c.new-chains.ensures (linked-start (client_at c.args.s.now)), λ p q m u e. absurd (omega arith))

pub loop-at-init : goal.loop-at-init
loop-at-init c = (c.pairs.invariant.0, rw c.latest-at.ensures (sought-start (client_at c.args.s.now) c.pairs.chains c.pairs.i c.pairs.invariant.1 c.read_u64-c.result))

pub loop-at-preserved : goal.loop-at-preserved
loop-at-preserved c =
    let p = c.pairs in
    let s = rw c.in-Some.is at c.loop-at.invariant.1 in
    let n = sought-next (client_at c.args.s.now) p.chains p.i p.invariant.1 c.read_u64-c.result c.in-Some.j s (λ e. c.if-read_u64-c.false (c.read_u64.ensures ∙ e)) in
    (c.loop-at.invariant.0, rw c.earlier-at.ensures n)

pub pairs-preserved : goal.pairs-preserved
pairs-preserved c =
    let a = c.args in
    let p = c.pairs in
    let x = c.read_u64-c in
    let y = c.read_u64-r in
    let l = c.loop-at in (
      l.invariant.0,
      rw (c.push.ensures, x.ensures) (linked-next (client_at a.s.now) p.chains p.i p.invariant.1 (omega arith)),
      elim c.match-at.branch [
        | in_default w ↦
            let none : NoneOf (client_at a.s.now) (client_at a.s.now p.i) 0 p.i = rw (← x.ensures) (rw w.in_default.is at l.invariant.1).none in
            grown-none a.s.now p.i p.invariant.2 none
        | in-Some+else-looks-eq0+then-read_u64-c+else-r-read_u64 w ↦
            let j = w.in-Some.j in
            let s = rw w.in-Some.is at l.invariant.1 in
            let none : NoneOf (client_at a.s.now) (client_at a.s.now p.i) (j + 1) p.i = rw (add-one, ← x.ensures) s.none in
            grown-over a.s.now p.i j p.invariant.2 (omega (arith, s.low)) none
            (sym w.read_u64.ensures ∙ w.if-read_u64-c.true ∙ x.ensures)
            (rw (← y.ensures, ← w.read_u64-then-read_u64-c.ensures) w.if-r-read_u64.false)
      ],
    )

pub returns-after-pairs : goal.returns-after-pairs
returns-after-pairs c =
    let p = c.pairs in
    let a = c.args in
    let e : p.i ≡ a.k = omega arith in
    p.invariant.0 ∙ sym (rises-true a.k a.s.now (rw (← e) p.invariant.2))

pub returns-then-r-read_u64 : goal.returns-then-r-read_u64
returns-then-r-read_u64 c =
    let a = c.args in
    let p = c.pairs in
    let j = c.in-Some.j in
    let s = rw c.in-Some.is at c.loop-at.invariant.1 in
    sym (rises-false a.k a.s.now j p.i (omega (arith, s.low)) (omega arith) (sym c.read_u64.ensures ∙ c.if-read_u64-c.true ∙ c.read_u64-c.ensures) (rw (← c.read_u64-r.ensures, ← c.read_u64-then-read_u64-c.ensures) c.if-r-read_u64.true))
