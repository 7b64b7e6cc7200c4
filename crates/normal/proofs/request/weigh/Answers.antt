-- `normal::request::weigh` meets its contract. Assumes nothing.
use mathlib.Core.Path.{sym, ap, ◌∙◌}
use mathlib.Core.Bool.{not}
use Rattle.normal.proofs.RequestLaws.{follower, absent, primary}
use Rattle.normal.proofs.VerdictLaws.{weighs-request}
use Rattle.normal.proofs.request.weigh.Goals as goal

pub returns-then-not-is_primary : goal.returns-then-not-is_primary
returns-then-not-is_primary c =
    let a = c.args in
    weighs-request _ _ _ _ _ _ (follower a.s a.e a.latest a.out a.reps (ap not (sym c.is_primary.ensures) ∙ (ap not c.if-not-is_primary.true)))

pub returns-then-not-is_normal : goal.returns-then-not-is_normal
returns-then-not-is_normal c =
    let a = c.args in
    weighs-request _ _ _ _ _ _
    (absent a.s a.e a.latest a.out a.reps
    (ap not (sym c.is_primary.ensures) ∙ (ap not c.if-not-is_primary.false))
    (ap not (sym c.is_normal.ensures) ∙ (ap not c.if-not-is_normal.true)))

pub returns : goal.returns
returns c =
    let a = c.args in
    weighs-request _ _ _ _ _ _
    (primary a.s a.e a.latest a.out a.reps _
    (ap not (sym c.is_primary.ensures) ∙ (ap not c.if-not-is_primary.false))
    (ap not (sym c.is_normal.ensures) ∙ (ap not c.if-not-is_normal.false)) c.weigh_client.ensures)
