-- `comparing::words::decoded` meets its contract. Assumes nothing.
use Rattle.std.proofs.Common.{◌∙◌, arith}
use Rattle.numbers.proofs.RunLaws.{over-nil}
use Rattle.comparing.specs.Text.{bytes_in}
use Rattle.comparing.proofs.TextLaws.{bytes_next, bytes-done, min-lesser}
use Rattle.comparing.proofs.words.decoded.Goals as goal

pub loop-i-init : goal.loop-i-init
unfolding bytes_in
loop-i-init c = over-nil _

pub loop-i-preserved : goal.loop-i-preserved
loop-i-preserved c = bytes_next c.args.w.now _ c.loop-i.b-items c.loop-i.i c.byte.result c.loop-i-test.true c.loop-i.invariant c.byte.ensures

pub returns : goal.returns
returns c = let a = c.args in (c.min-n.ensures ∙ min-lesser _ _, bytes-done a.w.now a.area.now c.loop-i.b-items c.min-n.result c.loop-i.i (omega (arith, c.min-n.ensures)) c.loop-i-test.false c.loop-i.auto.i-end c.loop-i.invariant)
