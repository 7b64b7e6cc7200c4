-- `client::send_all` meets its contract. The invariant: the frames to the replicas below `to` stand over the front of the area. Assumes nothing.
use mathlib.Core.Path.{◌≡◌, refl, sym, ◌∙◌}
use native.Mathlib.Numerals.{add-one}
use native.Mathlib.Omega.{arith}
use lib.ListN.{length}
use Rattle.numbers.proofs.RunLaws.{over-lend, over-nil}
use Rattle.client.specs.Client.{frames_to}
use Rattle.client.proofs.RefusalLaws.{frame-length, frames-length}
use Rattle.client.proofs.send_all.Goals as goal

pub loop-to-init : goal.loop-to-init
unfolding frames_to
loop-to-init c = record { frames = over-nil _; count = refl }

pub overflow_add-at : goal.overflow_add-at
overflow_add-at c =
    let counted : c.write_request-at.result ≡ 39 = c.write_request-at.ensures.count ∙ frame-length _ _ in
    let l = c.loop-to in
    omega (arith, counted, l.invariant.count, c.loop-to-test.true, c.ranges.n)

pub loop-to-preserved : goal.loop-to-preserved
unfolding frames_to
loop-to-preserved c =
    let counted : c.write_request-at.result ≡ 39 = c.write_request-at.ensures.count ∙ frame-length _ _ in
    let l = c.loop-to in
    let w : length (frames_to l.to c.args.e) ≡ l.at = frames-length l.to c.args.e ∙ sym l.invariant.count in
    let s = over-lend _ _ _ l.at w l.invariant.frames c.write_request-at.ensures.bytes in
    record { frames = rw (add-one l.to) s; count = omega (arith, counted, l.invariant.count) }

pub returns : goal.returns
returns c =
    let l = c.loop-to in
    let e : l.to ≡ c.args.n = omega arith in
    record { bytes = rw (← e) l.invariant.frames; count = rw (← e) (l.invariant.count ∙ sym (frames-length l.to c.args.e)) }
