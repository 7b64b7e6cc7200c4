-- `client_table::search::seek` meets its contract. Assumes nothing.
use mathlib.Core.Path.{sym, ap, ◌∙◌}
use Prim.Native.Nat.{ℕ}
use native.Mathlib.Omega.{arith}
use Rattle.client_table.specs.Search.{is_before}
use Rattle.client_table.specs.Rows.{seek}
use Rattle.client_table.specs.Shape.{row_at}
use Rattle.client_table.proofs.SearchLaws.{half-less, seek-turn, seek-end}
use Rattle.client_table.proofs.search.seek.Goals as goal

pub loop-s-init : goal.loop-s-init
unfolding seek
loop-s-init g c =
    let a = c.args in
    (omega arith, (a.n, omega arith, rw (g.met.F.Form.length_rows a.n a.table.now c.requires)))

pub loop-s-smaller : goal.loop-s-smaller
loop-s-smaller g c = rw c.halve-s.ensures (half-less c.loop-s.s c.before-in-loop-s.result c.loop-s-test.true).0

pub loop-s-preserved : goal.loop-s-preserved
loop-s-preserved g c =
    let h = g.F.Form.shape in
    let xs = g.F.Form.rows c.args.n c.args.table.now in
    let s = c.loop-s.s in
    let i = c.loop-s.invariant in
    let up = c.before-in-loop-s.result in
    let q = c.row_at-x.ensures ∙ ap (λ (k : ℕ). row_at h xs k) c.middle.ensures.0 in
    let b = c.before-in-loop-s.ensures ∙ (λ j. is_before (c.is_used.ensures j) (c.client.ensures j) c.args.goal) in
    let w = seek-turn h i.1.0 s c.args.goal xs c.row_at-x.result up c.loop-s-test.true i.1.1 q b in
    let l = half-less s up c.loop-s-test.true in
    rw c.halve-s.ensures (omega (arith, l.1, i.0), (w.0, w.1, i.1.2 ∙ w.2))

pub returns : goal.returns
returns g c =
    let i = c.loop-s.invariant in
    sym (i.1.2 ∙ seek-end g.F.Form.shape i.1.0 c.loop-s.s c.args.goal (g.F.Form.rows c.args.n c.args.table.now) c.loop-s-test.false)
