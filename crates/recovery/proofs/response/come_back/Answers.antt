-- `recovery::response::come_back` meets its contract. Assumes nothing.
use mathlib.Core.Path.{◌∙◌}
use Rattle.recovery.proofs.ResponseLaws.{comes_back}
use Rattle.recovery.proofs.response.come_back.Goals as goal

pub returns : goal.returns
returns c =
    let a = c.args in
    comes_back a.s a.b a.g a.r a.fresh.now a.log.now a.results.now a.totals.now a.stored.now _ _ _ _ _ _
    (c.with_log-t.ensures ∙ rw c.enter_normal.ensures)
    c.install.ensures
    c.commit_up_to-u.ensures.0
    c.commit_up_to-u.ensures.1 c.done.ensures
