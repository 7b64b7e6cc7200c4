-- `comparing::answer::differs` meets its contract. Assumes nothing.
use mathlib.Core.Bool.{not}
use mathlib.Core.Path.{ap, sym, ◌∙◌}
use Rattle.std.proofs.Common.{true}
use Rattle.comparing.specs.Answers.{same_front}
use Rattle.comparing.proofs.AnswerLaws.{code-differs, messages-differ, replies-differ, answer-same}
use Rattle.comparing.proofs.answer.differs.Goals as goal

pub returns-then-number-decimal : goal.returns-then-number-decimal
returns-then-number-decimal c = code-differs c.args.a c.args.line.now c.args.out.now c.args.reps.now c.decimal.result true true c.decimal.ensures (λ e. c.if-number-decimal.true (c.number.ensures ∙ e))

pub returns-then-not-same_front : goal.returns-then-not-same_front
returns-then-not-same_front c =
    let a = c.args in
    messages-differ a.a a.line.now a.out.now a.reps.now c.decimal.result c.same_front.result true c.decimal.ensures (sym c.number.ensures ∙ c.if-number-decimal.false)
    (c.same_front.ensures ∙ ap (λ n. same_front a.line.now 2 n a.out.now) c.messages.ensures) (ap not c.if-not-same_front.true)

pub returns-then-not-same_front-2 : goal.returns-then-not-same_front-2
returns-then-not-same_front-2 c =
    let a = c.args in
    replies-differ a.a a.line.now a.out.now a.reps.now c.decimal.result c.same_front.result c.same_front-2.result c.decimal.ensures (sym c.number.ensures ∙ c.if-number-decimal.false)
    (c.same_front.ensures ∙ ap (λ n. same_front a.line.now 2 n a.out.now) c.messages.ensures) (ap not c.if-not-same_front.false)
    (c.same_front-2.ensures ∙ ap (λ n. same_front a.line.now 3 n a.reps.now) c.replies.ensures) (ap not c.if-not-same_front-2.true)

pub returns : goal.returns
returns c =
    let a = c.args in
    answer-same a.a a.line.now a.out.now a.reps.now c.decimal.result c.same_front.result c.same_front-2.result c.decimal.ensures (sym c.number.ensures ∙ c.if-number-decimal.false)
    (c.same_front.ensures ∙ ap (λ n. same_front a.line.now 2 n a.out.now) c.messages.ensures) (ap not c.if-not-same_front.false)
    (c.same_front-2.ensures ∙ ap (λ n. same_front a.line.now 3 n a.reps.now) c.replies.ensures) (ap not c.if-not-same_front-2.false)
