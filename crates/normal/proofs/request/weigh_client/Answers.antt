-- `normal::request::weigh_client` meets its contract. Assumes nothing.
use mathlib.Core.Path.{sym, ◌∙◌}
use Rattle.normal.proofs.RequestLaws.{new-number, known-number}
use Rattle.normal.proofs.request.weigh_client.Goals as goal

pub returns-then-is_new : goal.returns-then-is_new
returns-then-is_new c =
    let a = c.args in
    new-number a.s a.e a.latest a.out a.reps _ (sym c.is_new.ensures ∙ c.if-is_new.true) c.weigh_new.ensures

pub returns : goal.returns
returns c =
    let a = c.args in
    known-number a.s a.e a.latest a.out a.reps _ (sym c.is_new.ensures ∙ c.if-is_new.false) c.weigh_known.ensures
