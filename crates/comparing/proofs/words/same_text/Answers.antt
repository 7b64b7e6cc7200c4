-- `comparing::words::same_text` meets its contract. Assumes nothing.
use Rattle.std.proofs.Common.{sym, ◌∙◌, arith}
use Rattle.comparing.specs.Text.{hex_text}
use Rattle.comparing.proofs.TextLaws.{same-lengths, text-length, text-first, text-second, text-next, text-end}
use Rattle.comparing.proofs.words.same_text.Goals as goal

pub returns-then-w-s : goal.returns-then-w-s
returns-then-w-s c = let a = c.args in sym (same-lengths a.w.now (hex_text a.s.now) (λ e. c.if-w-s.true (e ∙ text-length a.s.now)))

pub returns-then-w-i : goal.returns-then-w-i
returns-then-w-i c = let a = c.args in let l = c.loop-i in sym (l.invariant ∙ text-first a.w.now a.s.now l.i c.letter.result 0 (omega arith) (omega (arith, c.if-w-s.false, c.loop-i-test.true)) c.letter.ensures c.if-w-i.true)

pub returns-then-w-i-2 : goal.returns-then-w-i-2
returns-then-w-i-2 c = let a = c.args in let l = c.loop-i in sym (l.invariant ∙ text-second a.w.now a.s.now l.i c.letter.result c.letter-in-loop-i.result (omega arith) (omega (arith, c.if-w-s.false, c.loop-i-test.true)) c.letter.ensures c.letter-in-loop-i.ensures c.if-w-i.false c.if-w-i-2.true)

pub loop-i-preserved : goal.loop-i-preserved
loop-i-preserved c = let a = c.args in let l = c.loop-i in l.invariant ∙ text-next a.w.now a.s.now l.i c.letter.result c.letter-in-loop-i.result (omega arith) (omega (arith, c.if-w-s.false, c.loop-i-test.true)) c.letter.ensures c.letter-in-loop-i.ensures c.if-w-i.false c.if-w-i-2.false

pub returns : goal.returns
returns c = let a = c.args in let l = c.loop-i in sym (l.invariant ∙ text-end a.w.now a.s.now l.i c.loop-i-test.false c.loop-i.auto.i-end c.if-w-s.false)
