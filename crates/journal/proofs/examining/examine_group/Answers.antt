-- `journal::examining::examine_group` meets its contract. Assumes nothing.
use mathlib.Core.Path.{◌≡◌, sym, ap, ◌∙◌}
use Prim.Native.Nat.{◌*◌}
use native.Mathlib.Omega.{arith}
use lib.ListN.{length, take, length-drop}
use lib.Seq.{length-take-le}
use Rattle.journal.specs.Journal.{framed_entry}
use Rattle.journal.proofs.ChunkLaws.{turn-of, turn-next, turn-room, turn-in, turn-framed, turn-result}
use Rattle.journal.proofs.GroupLaws.{grouped-none}
use Rattle.journal.proofs.BelowLaws.{right-none, judged, right-turn, other-turn, group-bad, group-right}
use Rattle.journal.proofs.examining.examine_group.Goals as goal

pub loop-i-init : goal.loop-i-init
loop-i-init c =
    let a = c.args in
    let z : c.into_iter-i-iterator.result.count ≡ 0 = cc in
    record {
      size = cc;
      rest = rw z cc;
      there = omega (arith, z);
      grouped = rw z (grouped-none a.group.members a.group.low 50 framed_entry a.file.now (omega arith));
      right = rw z (right-none a.group.members a.group.low a.file.now);
    }

pub returns-in-Err : goal.returns-in-Err
returns-in-Err c =
    let l = c.loop-i in
    let v = l.invariant in
    let a = c.args in
    let file = a.file.now in
    let i = l.i-iterator.count in
    let s = c.in-Some.ensures.steps in
    let long = length-take-le (50 * a.j.frames) file c.requires.there in
    let n = turn-of {w = 50} {k = i} {s = take (50 * a.j.frames) file} v.size v.rest s.0.1.0 s.0.1.1 in
    let u = turn-in (50 * a.j.frames) n (omega (arith, long, v.there)) in
    let e = c.entry_at-e in
    let r = c.result_at in
    let f = c.result_fault in
    rw s.1 (group-bad a.group.members a.group.low file a.j c.requires i c.in-Err.fault (omega (arith, turn-room n (omega arith), long)) v.right
    (sym (judged a.group.members a.group.low file i l.totals v.grouped v.right e.result (e.ensures ∙ turn-framed u) (sym c.has.ensures ∙ c.if-has.true)
    c.apply-given.result r.result f.result c.apply-given.ensures.outcome (r.ensures ∙ turn-result u) f.ensures) ∙ c.in-Err.is))

pub loop-i-preserved-in_default : goal.loop-i-preserved-in_default
loop-i-preserved-in_default c =
    let l = c.loop-i in
    let v = l.invariant in
    let a = c.args in
    let file = a.file.now in
    let i = l.i-iterator.count in
    let s = c.in-Some.ensures.steps in
    let long = length-take-le (50 * a.j.frames) file c.requires.there in
    let n = turn-of {w = 50} {k = i} {s = take (50 * a.j.frames) file} v.size v.rest s.0.1.0 s.0.1.1 in
    let u = turn-in (50 * a.j.frames) n (omega (arith, long, v.there)) in
    let e = c.entry_at-e in
    let r = c.result_at in
    let f = c.result_fault in
    let g = c.apply-given in
    let t = right-turn a.group.members a.group.low file i l.totals v.grouped v.right e.result (e.ensures ∙ turn-framed u) (sym c.has.ensures ∙ c.if-has.true)
    g.result r.result f.result g.ensures.outcome (r.ensures ∙ turn-result u) f.ensures g.new.totals g.ensures.totals g.auto.totals c.in_default.is in
    rw s.2 (record {
      size = s.0.0 ∙ v.size;
      rest = turn-next n;
      there = omega (arith, turn-room n (omega arith), long);
      grouped = t.0;
      right = t.1;
    })

pub loop-i-preserved : goal.loop-i-preserved
loop-i-preserved c =
    let l = c.loop-i in
    let v = l.invariant in
    let a = c.args in
    let file = a.file.now in
    let i = l.i-iterator.count in
    let s = c.in-Some.ensures.steps in
    let long = length-take-le (50 * a.j.frames) file c.requires.there in
    let n = turn-of {w = 50} {k = i} {s = take (50 * a.j.frames) file} v.size v.rest s.0.1.0 s.0.1.1 in
    let u = turn-in (50 * a.j.frames) n (omega (arith, long, v.there)) in
    let e = c.entry_at-e in
    let t = other-turn a.group.members a.group.low file i l.totals v.grouped v.right e.result (e.ensures ∙ turn-framed u) (sym c.has.ensures ∙ c.if-has.false) in
    rw s.2 (record {
      size = s.0.0 ∙ v.size;
      rest = turn-next n;
      there = omega (arith, turn-room n (omega arith), long);
      grouped = t.0;
      right = t.1;
    })

pub returns : goal.returns
returns c =
    let l = c.loop-i in
    let v = l.invariant in
    let a = c.args in
    let file = a.file.now in
    let i = l.i-iterator.count in
    let s = c.in-None.ensures.steps in
    let long = length-take-le (50 * a.j.frames) file c.requires.there in
    group-right a.group.members a.group.low file a.j c.requires i
    (omega (arith, s.0.1.0, v.size, ap length v.rest, length-drop (50 * i) (take (50 * a.j.frames) file), long)) v.there v.right
