-- `book::keeps` meets its contract. Assumes nothing.
use mathlib.Core.Path.{sym, ◌∙◌}
use Rattle.book.proofs.LogLaws.{keeps-short, keeps-long, same-bytes}
use Rattle.book.proofs.keeps.Goals as goal

pub returns-then-k-n : goal.returns-then-k-n
returns-then-k-n c = let a = c.args in sym (keeps-short a.n a.log.now a.k a.part.now c.if-k-n.true)

pub returns : goal.returns
returns c =
    let a = c.args in
    c.eq.ensures ∙ same-bytes _ _ ∙ sym (keeps-long a.n a.log.now a.k a.part.now c.if-k-n.false)
