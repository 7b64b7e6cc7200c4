-- `journal::takings` meets its contract. Assumes nothing.
use mathlib.Core.Path.{◌≡◌, sym, ap, ◌∙◌}
use mathlib.Core.List.{[], ◌∷◌, ◌++◌}
use Prim.Native.Nat.{◌+◌, ◌*◌, ◌<◌}
use native.Mathlib.Nat.{sub-zero, zero-add}
use native.Mathlib.Omega.{arith}
use lib.ListN.{length, length-append, length-drop}
use Rattle.journal.proofs.ChunkLaws.{Turn, turn-of, turn-next, turn-room, turn-total}
use Rattle.journal.proofs.TakingLaws.{there-is, no-takings, large-stops, small-goes, small-ends}
use Rattle.journal.proofs.takings.Goals as goal

pub returns-then-not-totals_there : goal.returns-then-not-totals_there
returns-then-not-totals_there c =
    let a = c.args in
    sym (no-takings a.members a.totals.now (sym c.totals_there.ensures ∙ c.if-not-totals_there.true))

pub loop-total-init : goal.loop-total-init
loop-total-init c =
    let a = c.args in
    record {
      there = there-is a.members a.totals.now (sym c.totals_there.ensures ∙ c.if-not-totals_there.false);
      size = cc;
      rest = cc;
      some = omega arith;
      below = omega arith;
      small = rw (sub-zero a.members);
      added = rw (sub-zero a.members) (sym (zero-add _));
    }

pub returns-then-t-gt1000000000 : goal.returns-then-t-gt1000000000
returns-then-t-gt1000000000 c =
    let l = c.loop-total in
    let v = l.invariant in
    let a = c.args in
    let s = c.in-Some.ensures.steps in
    let n : Turn 8 (length l.yielded) a.totals.now c.in-Some.total.now c.next.new.self.rest.now = turn-of v.size v.rest s.1.0 s.1.1 in
    sym (large-stops a.members a.totals.now (length l.yielded) c.read_u64-t.result v.there (omega (arith, turn-room n (omega arith), v.there.long))
    (c.read_u64-t.ensures ∙ turn-total n) c.if-t-gt1000000000.true v.small)

pub overflow_add-cents : goal.overflow_add-cents
overflow_add-cents c =
    let v = c.loop-total.invariant in
    omega (arith, v.below, v.some, v.there.few, c.if-t-gt1000000000.false)

pub loop-total-preserved : goal.loop-total-preserved
loop-total-preserved c =
    let l = c.loop-total in
    let v = l.invariant in
    let a = c.args in
    let s = c.in-Some.ensures.steps in
    let i = length l.yielded in
    let n : Turn 8 i a.totals.now c.in-Some.total.now c.next.new.self.rest.now = turn-of v.size v.rest s.1.0 s.1.1 in
    let h : i < a.members = omega (arith, turn-room n (omega arith), v.there.long) in
    let g = small-goes a.members a.totals.now i c.read_u64-t.result h (c.read_u64-t.ensures ∙ turn-total n) c.if-t-gt1000000000.false in
    let e : length (l.yielded ++ c.in-Some.total ∷ []) ≡ i + 1 = length-append l.yielded (c.in-Some.total ∷ []) in
    rw e (record {
      there = v.there;
      size = s.0 ∙ v.size;
      rest = turn-next n;
      some = omega arith;
      below = omega (arith, v.below, c.if-t-gt1000000000.false);
      small = v.small ∙ g.0;
      added = omega (arith, v.added, g.1);
    })

pub returns : goal.returns
returns c =
    let l = c.loop-total in
    let v = l.invariant in
    let a = c.args in
    let s = c.in-None.ensures.steps in
    small-ends a.members a.totals.now (length l.yielded) l.cents v.there
    (omega (arith, s.1.0, v.size, ap length v.rest, length-drop (8 * length l.yielded) a.totals.now, v.there.long)) v.small v.added
