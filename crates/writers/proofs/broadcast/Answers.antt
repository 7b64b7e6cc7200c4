-- `writers::broadcast` meets its contract. The invariant: the frames to the others below `to` stand over the front of the area. Assumes nothing.
use mathlib.Core.Path.{◌≡◌, refl, sym, ap, ◌∙◌}
use mathlib.Core.List.{List, []}
use Prim.Native.Nat.{ℕ, suc, ◌+◌, ◌-◌, ◌*◌, ◌≤◌, ◌<◌}
use native.Mathlib.Numerals.{add-one}
use native.Mathlib.Omega.{arith}
use lib.Dec.{eqb}
use lib.ListN.{length, length-take, length-drop, length-append}
use lib.Seq.{length-take-le}
use Rattle.numbers.specs.Words.{when◌then◌else◌}
use Rattle.numbers.proofs.RunLaws.{over-lend, over-nil, length_over}
use Rattle.frames.specs.declared.Message.{Message}
use Rattle.writers.specs.Writers.{encode, size_of, length_of, to_others}
use Rattle.writers.proofs.WriterLaws.{room-left, others-most}
use Rattle.writers.proofs.broadcast.Invariants.{carried}
use Rattle.writers.proofs.broadcast.Goals as goal

module _ (n me : ℕ) (m : Message) (area log : List ℕ) (h : me < n) (g : 32 * (size_of m).entries ≤ length log) (f : (n - 1) * length_of m ≤ length area) where
  enough : length (carried m log) ≡ 32 * (size_of m).entries
  enough = length-take-le (32 * (size_of m).entries) log g

  -- the frames to the others below k fit
  most : (k : ℕ) → k ≤ n → length (to_others k me m (carried m log)) ≤ length area
  most k u = omega (arith, f, others-most me m (carried m log) enough n k u h)

  -- one frame more
  grown : (at to r : ℕ) → at ≡ length (to_others to me m (carried m log)) → r ≡ length (when eqb to me then [] else encode to m (carried m log))
      → at + r ≡ length (to_others (suc to) me m (carried m log))
  unfolding to_others
  grown at to r p e =
      let one = when eqb to me then [] else encode to m (carried m log) in
      omega (arith, p, e, length-append (to_others to me m (carried m log)) one)

pub loop-to-init : goal.loop-to-init
unfolding to_others
loop-to-init c = (refl, over-nil _, refl)

pub write_other-at-requires : goal.write_other-at-requires
write_other-at-requires c ne =
    let l = c.loop-to in
    let a = c.args in
    let q = c.requires.1.1 in
    let r = room-left a.me a.m (carried a.m a.log.now) (enough a.n a.me a.m a.area.now a.log.now c.requires.0 q.0 q.1) a.n l.to c.loop-to-test.true c.requires.0 ne in
    record {
      few = c.requires.1.0;
      log = q.0;
      fits = simp (length-take, length-drop) (omega (arith, r, l.invariant.0, l.invariant.2, q.1));
    }

pub overflow_add-at : goal.overflow_add-at
overflow_add-at c =
    let l = c.loop-to in
    let a = c.args in
    let q = c.requires.1.1 in
    omega (
      arith,
      grown a.n a.me a.m a.area.now a.log.now c.requires.0 q.0 q.1 l.at l.to _ l.invariant.2 c.write_other-at.ensures.count,
      most a.n a.me a.m a.area.now a.log.now c.requires.0 q.0 q.1 (suc l.to) (omega (arith, c.loop-to-test.true)),
    )

pub loop-to-preserved : goal.loop-to-preserved
unfolding to_others
loop-to-preserved c =
    let l = c.loop-to in
    let a = c.args in
    let q = c.requires.1.1 in
    let s = over-lend _ _ _ l.at (sym l.invariant.2) l.invariant.1 c.write_other-at.ensures.bytes in
    let fits = most a.n a.me a.m a.area.now a.log.now c.requires.0 q.0 q.1 (suc l.to) (omega (arith, c.loop-to-test.true)) in (
      ap length s ∙ length_over (to_others (suc l.to) a.me a.m (carried a.m a.log.now)) a.area.now fits,
      rw (add-one l.to) s,
      rw (add-one l.to) (grown a.n a.me a.m a.area.now a.log.now c.requires.0 q.0 q.1 l.at l.to _ l.invariant.2 c.write_other-at.ensures.count),
    )

pub slice_bounds-write_other-count : goal.slice_bounds-write_other-count
slice_bounds-write_other-count c =
    let l = c.loop-to in
    let a = c.args in
    let q = c.requires.1.1 in
    omega (arith, l.invariant.0, l.invariant.2, most a.n a.me a.m a.area.now a.log.now c.requires.0 q.0 q.1 l.to (omega (arith, c.loop-to-test.true)))

pub slice_bounds-write_other-start : goal.slice_bounds-write_other-start
slice_bounds-write_other-start c =
    let l = c.loop-to in
    let a = c.args in
    let q = c.requires.1.1 in
    omega (arith, l.invariant.0, l.invariant.2, most a.n a.me a.m a.area.now a.log.now c.requires.0 q.0 q.1 l.to (omega (arith, c.loop-to-test.true)))
