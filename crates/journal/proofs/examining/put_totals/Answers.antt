-- `journal::examining::put_totals` meets its contract. Assumes nothing.
use mathlib.Core.Path.{◌≡◌, ap, ◌∙◌}
use mathlib.Core.List.{[], ◌∷◌, ◌++◌}
use Prim.Native.Nat.{ℕ, ◌+◌, ◌*◌, ◌/◌}
use native.Mathlib.Omega.{arith}
use lib.ListN.{length, replicate, length-append, length-drop, length-replicate}
use Rattle.numbers.specs.Numbers.{big}
use Rattle.numbers.specs.Cells.{cells, packed}
use Rattle.layout.specs.Layout.{total_of}
use Rattle.journal.specs.Journal.{no_totals, framed_entry}
use Rattle.journal.specs.Steps.{totals_filed}
use Rattle.journal.proofs.ChunkLaws.{turn-of, turn-next, turn-room, turn-framed}
use Rattle.journal.proofs.TotalLaws.{through-none, through-more, after_is, zero-totals, totals-are}
use Rattle.journal.proofs.examining.put_totals.Goals as goal

pub loop-frame-init : goal.loop-frame-init
loop-frame-init c =
    let a = c.args in
    let M = a.members in
    let z = c.fill.ensures.after (λ y e. e) ∙ ap (λ (k : ℕ). replicate {A = ℕ} k 0) c.requires in
    record {
      size = cc;
      rest = cc;
      there = omega arith;
      long = ap length z ∙ length-replicate {A = ℕ} (8 * M) 0;
      bytes = λ i. omega (arith, c.type_inv.totals i);
      are = ap (cells 8 total_of M) z ∙ zero-totals M (8 * M) (omega arith) ∙ through-none 50 framed_entry (no_totals M) a.file.now;
    }

pub loop-frame-preserved : goal.loop-frame-preserved
loop-frame-preserved c =
    let e = c.entry_at in
    let l = c.loop-frame in
    let v = l.invariant in
    let a = c.args in
    let M = a.members in
    let file = a.file.now in
    let j = length l.yielded in
    let s = c.in-Some.ensures.steps in
    let n = turn-of {w = 50} {k = j} {s = file} v.size v.rest s.1.0 s.1.1 in
    let t = through-more 50 framed_entry (no_totals M) file j (cells 8 total_of M l.totals) e.result v.are (e.ensures ∙ turn-framed n) in
    let k : length (l.yielded ++ c.in-Some.frame ∷ []) ≡ j + 1 = length-append l.yielded (c.in-Some.frame ∷ []) in
    rw k (record {
      size = s.0 ∙ v.size;
      rest = turn-next n;
      there = omega (arith, turn-room n (omega arith));
      long = c.apply.auto.totals ∙ v.long;
      bytes = λ i. omega (arith, c.type_inv.totals i);
      are = after_is M l.totals e.result _ v.bytes (omega (arith, v.long)) c.apply.ensures.1 ∙ t;
    })

pub returns : goal.returns
returns c =
    let l = c.loop-frame in
    let v = l.invariant in
    let a = c.args in
    let s = c.in-None.ensures.steps in
    let e : length l.yielded ≡ length a.file.now / 50 = omega (arith, s.1.0, v.size, v.there, ap length v.rest, length-drop (50 * length l.yielded) a.file.now) in
    totals-are a.members l.totals _ v.bytes v.long v.are ∙ ap (λ (j : ℕ). packed (big 8) (totals_filed a.members j a.file.now)) e
