-- `whitherhaul::clients::whitherhaul_client_idle` meets its contract. Assumes nothing.
use mathlib.Core.Path.{sym, ◌∙◌}
use native.Mathlib.Omega.{arith}
use Rattle.client_bytes.proofs.LayoutLaws.{record-long}
use Rattle.whitherhaul.proofs.ClientLaws.{no-tick, idle-refused, idle-done}
use Rattle.whitherhaul.proofs.clients.whitherhaul_client_idle.Goals as goal

pub returns-then-not-client_ok : goal.returns-then-not-client_ok
returns-then-not-client_ok c = let a = c.args in no-tick a.held.now a.area.now c.from.ensures (sym c.client_ok.ensures ∙ c.if-not-client_ok.true)

pub read_client-requires : goal.read_client-requires
read_client-requires c = omega (arith, record-long _ (sym c.client_ok.ensures ∙ c.if-not-client_ok.false))

pub returns-in-Err : goal.returns-in-Err
returns-in-Err c =
    let a = c.args in
    idle-refused a.held.now a.area.now (sym c.client_ok.ensures ∙ c.if-not-client_ok.false) _ c.read_client.ensures _ _ c.idled.ensures.0 c.idled.ensures.1
    c.in-Err.is c.from-in-Err.ensures

pub returns-in-Ok : goal.returns-in-Ok
returns-in-Ok c =
    let a = c.args in
    idle-done a.held.now a.area.now (sym c.client_ok.ensures ∙ c.if-not-client_ok.false) _ c.read_client.ensures _ _ c.idled.ensures.0 c.idled.ensures.1 c.in-Ok.is
