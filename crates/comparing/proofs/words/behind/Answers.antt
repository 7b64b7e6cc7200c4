-- `comparing::words::behind` meets its contract. Assumes nothing.
use Rattle.comparing.proofs.TextLaws.{behind-none, behind-some}
use Rattle.std.proofs.Common.{rules}
use Rattle.comparing.proofs.words.behind.Goals as goal

pub returns-then-s-at : goal.returns-then-s-at
returns-then-s-at c = (behind-none c.args.s.now c.args.at c.find-n.result c.find-n.ensures.0 c.if-s-at.true, search rules)

pub returns : goal.returns
returns c = (behind-some c.args.s.now c.args.at c.find-n.result c.find-n.ensures.0 c.if-s-at.false, search rules)
