-- `state_bytes::part::write_reports` meets its contract. Assumes nothing.
use mathlib.Core.Path.{◌≡◌, refl}
use native.Mathlib.Omega.{arith}
use lib.ListN.{length}
use Rattle.numbers.specs.Cells.{packed}
use Rattle.numbers.proofs.RunLaws.{over-nil}
use Rattle.state_bytes.proofs.LayoutLaws.{put-report, fits_more, all-put}
use Rattle.state_bytes.proofs.part.write_reports.Goals as goal

pub loop-i-init : goal.loop-i-init
unfolding packed
loop-i-init c = (over-nil _, λ j h. absurd (omega arith))

pub loop-i-preserved : goal.loop-i-preserved
loop-i-preserved c =
    let l = c.loop-i in
    let a = c.args in
    let w = c.write_report in
    let seven : length a.t.rows ≡ 7 = c.well_formed.1.0.1.1.0.1.0.1 in
    let p = put-report a.t a.area.now seven l.i (omega (arith, seven, c.loop-i-test.true)) refl l.invariant.0 w.ensures.0 in
    (p, fits_more a.t a.area.now seven l.i l.invariant.1 w.ensures.1)

pub returns : goal.returns
returns c =
    let l = c.loop-i in
    let a = c.args in
    let seven : length a.t.rows ≡ 7 = c.well_formed.1.0.1.1.0.1.0.1 in
    let e : l.i ≡ 7 = omega (arith, seven, c.loop-i-test.false, l.auto.i-end) in
    (all-put a.t a.area.now seven (rw e at l.invariant.0), record { seven = seven; each = λ j h. l.invariant.1 j (omega (arith, e, h)) })
