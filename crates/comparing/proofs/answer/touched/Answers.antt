-- `comparing::answer::touched` meets its contract. Assumes nothing.
use mathlib.Core.Bool.{not}
use mathlib.Core.Path.{ap, ◌∙◌}
use Rattle.std.proofs.Common.{true}
use Rattle.comparing.specs.Areas.{left_alone}
use Rattle.comparing.proofs.AnswerLaws.{touched-messages, touched-replies, touched_none}
use Rattle.comparing.proofs.answer.touched.Goals as goal

pub returns-then-not-untouched : goal.returns-then-not-untouched
returns-then-not-untouched c =
    let a = c.args in
    touched-messages a.a a.out.now a.messages a.reps.now a.replies c.untouched.result true
    (c.untouched.ensures ∙ ap (λ n. left_alone n a.messages a.out.now) c.messages.ensures) (ap not c.if-not-untouched.true)

pub returns-then-not-untouched-2 : goal.returns-then-not-untouched-2
returns-then-not-untouched-2 c =
    let a = c.args in
    touched-replies a.a a.out.now a.messages a.reps.now a.replies c.untouched.result c.untouched-2.result
    (c.untouched.ensures ∙ ap (λ n. left_alone n a.messages a.out.now) c.messages.ensures) (ap not c.if-not-untouched.false)
    (c.untouched-2.ensures ∙ ap (λ n. left_alone n a.replies a.reps.now) c.replies.ensures) (ap not c.if-not-untouched-2.true)

pub returns : goal.returns
returns c =
    let a = c.args in
    touched_none a.a a.out.now a.messages a.reps.now a.replies c.untouched.result c.untouched-2.result
    (c.untouched.ensures ∙ ap (λ n. left_alone n a.messages a.out.now) c.messages.ensures) (ap not c.if-not-untouched.false)
    (c.untouched-2.ensures ∙ ap (λ n. left_alone n a.replies a.reps.now) c.replies.ensures) (ap not c.if-not-untouched-2.false)
