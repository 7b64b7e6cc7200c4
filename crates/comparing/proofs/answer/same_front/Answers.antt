-- `comparing::answer::same_front` meets its contract. Assumes nothing.
use Rattle.std.proofs.Common.{◌∙◌}
use Rattle.comparing.proofs.AnswerLaws.{front-short, front_same}
use Rattle.comparing.proofs.answer.same_front.Goals as goal

pub returns-then-area-n : goal.returns-then-area-n
returns-then-area-n c = front-short c.args.line.now c.args.k c.args.n c.args.area.now c.if-area-n.true

pub returns : goal.returns
returns c = c.same.ensures ∙ front_same c.args.line.now c.args.k c.args.n c.args.area.now c.if-area-n.false
