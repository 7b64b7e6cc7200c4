-- `comparing::words::start` meets its contract. Assumes nothing.
use Rattle.std.proofs.Common.{refl, rules}
use Rattle.comparing.specs.Text.{word_start}
use Rattle.comparing.proofs.TextLaws.{start-next}
use Rattle.comparing.proofs.words.start.Goals as goal

pub loop-init : goal.loop-init
unfolding word_start
loop-init c = (refl, search rules)

pub loop-preserved : goal.loop-preserved
loop-preserved c = (start-next c.args.s.now c.loop.counter c.loop.at c.behind-at.result c.loop.invariant.0 c.behind-at.ensures.0, c.behind-at.ensures.1)
