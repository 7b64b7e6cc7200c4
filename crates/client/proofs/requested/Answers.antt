-- `client::requested` meets its contract: past the test no cause to refuse holds. Assumes nothing.
use mathlib.Core.Path.{sym, ◌∙◌}
use native.Mathlib.Omega.{arith}
use lib.ListN.{length}
use Rattle.client.proofs.RefusalLaws.{Ready, ready}
use Rattle.client.proofs.StepLaws.{request-refused, request-done}
use Rattle.client.proofs.requested.Goals as goal

pub returns-in-Err : goal.returns-in-Err
returns-in-Err c = request-refused _ _ _ _ _ (sym c.may_request.ensures ∙ c.in-Err.is)

pub returns : goal.returns
returns c =
    request-done _ _ _ _ _ (sym c.may_request.ensures ∙ c.in_default.is) _ _ c.primary_id.ensures.0 c.write_request-written.ensures

pub primary_id-requires : goal.primary_id-requires
primary_id-requires c =
    let facts : let a = c.args in Ready a.c a.operation a.cents (length a.area.now) = ready _ _ _ _ (sym c.may_request.ensures ∙ c.in_default.is) in
    omega (arith, facts.three)

pub write_request-written-requires : goal.write_request-written-requires
write_request-written-requires c =
    let facts : let a = c.args in Ready a.c a.operation a.cents (length a.area.now) = ready _ _ _ _ (sym c.may_request.ensures ∙ c.in_default.is) in
    facts.fits

pub overflow_add-result : goal.overflow_add-result
overflow_add-result c =
    let facts : let a = c.args in Ready a.c a.operation a.cents (length a.area.now) = ready _ _ _ _ (sym c.may_request.ensures ∙ c.in_default.is) in
    omega (arith, facts.more)
