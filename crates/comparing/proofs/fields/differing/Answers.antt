-- `comparing::fields::differing` meets its contract. Assumes nothing.
use Rattle.std.proofs.Common.{sym, ◌∙◌, arith}
use Rattle.comparing.proofs.FieldLaws.{differ-here, differ-next, differ-end}
use Rattle.comparing.proofs.fields.differing.Goals as goal

pub returns-then-wanted-x : goal.returns-then-wanted-x
returns-then-wanted-x c = let a = c.args in let l = c.loop-k in sym (l.invariant ∙ differ-here a.line.now a.values.now l.k c.wanted.result (omega arith) c.wanted.ensures c.if-wanted-x.true)

pub loop-k-preserved : goal.loop-k-preserved
loop-k-preserved c = let a = c.args in let l = c.loop-k in l.invariant ∙ differ-next a.line.now a.values.now l.k c.wanted.result (omega arith) c.wanted.ensures c.if-wanted-x.false

pub returns : goal.returns
returns c = let a = c.args in let l = c.loop-k in sym (l.invariant ∙ differ-end a.line.now a.values.now l.k (omega arith) (omega arith) ∙ omega arith)
