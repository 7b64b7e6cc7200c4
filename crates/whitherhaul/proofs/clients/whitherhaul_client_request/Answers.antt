-- `whitherhaul::clients::whitherhaul_client_request` meets its contract. Assumes nothing.
use mathlib.Core.Path.{sym, ◌∙◌}
use native.Mathlib.Omega.{arith}
use Rattle.client_bytes.proofs.LayoutLaws.{record-long}
use Rattle.whitherhaul.proofs.ClientLaws.{no-request, request-refused, request-done}
use Rattle.whitherhaul.proofs.clients.whitherhaul_client_request.Goals as goal

pub returns-then-not-client_ok : goal.returns-then-not-client_ok
returns-then-not-client_ok c =
    let a = c.args in
    no-request a.held.now a.operation a.member a.cents a.area.now c.from.ensures (sym c.client_ok.ensures ∙ c.if-not-client_ok.true)

pub read_client-requires : goal.read_client-requires
read_client-requires c = omega (arith, record-long _ (sym c.client_ok.ensures ∙ c.if-not-client_ok.false))

pub returns-in-Err : goal.returns-in-Err
returns-in-Err c =
    let a = c.args in
    request-refused a.held.now a.operation a.member a.cents a.area.now (sym c.client_ok.ensures ∙ c.if-not-client_ok.false) _ c.read_client.ensures _ _
    c.requested-after.ensures.0 c.requested-after.ensures.1 c.in-Err.is c.from-in-Err.ensures

pub write_client-requires : goal.write_client-requires
write_client-requires c = record-long _ (sym c.client_ok.ensures ∙ c.if-not-client_ok.false)

pub returns-in-Ok : goal.returns-in-Ok
returns-in-Ok c =
    let a = c.args in
    request-done a.held.now a.operation a.member a.cents a.area.now (sym c.client_ok.ensures ∙ c.if-not-client_ok.false) _ c.read_client.ensures _ _
    c.requested-after.ensures.0 c.requested-after.ensures.1 c.in-Ok.is c.write_client.ensures
