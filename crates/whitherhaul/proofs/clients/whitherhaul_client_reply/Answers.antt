-- `whitherhaul::clients::whitherhaul_client_reply` meets its contract. Assumes nothing.
use mathlib.Core.Path.{sym, ◌∙◌}
use native.Mathlib.Omega.{arith}
use Rattle.state_bytes.proofs.LayoutLaws.{flag-byte}
use Rattle.client_bytes.proofs.LayoutLaws.{record-long}
use Rattle.whitherhaul.proofs.ClientLaws.{no-reply, reply-refused, reply-done}
use Rattle.whitherhaul.proofs.clients.whitherhaul_client_reply.Goals as goal

pub returns-then-not-client_ok : goal.returns-then-not-client_ok
returns-then-not-client_ok c =
    let a = c.args in no-reply a.held.now a.number (record { 0 = a.view }) c.from.ensures (sym c.client_ok.ensures ∙ c.if-not-client_ok.true)

pub read_client-requires : goal.read_client-requires
read_client-requires c = omega (arith, record-long _ (sym c.client_ok.ensures ∙ c.if-not-client_ok.false))

pub returns-in-Err : goal.returns-in-Err
returns-in-Err c =
    let a = c.args in
    reply-refused a.held.now a.number (record { 0 = a.view }) (sym c.client_ok.ensures ∙ c.if-not-client_ok.false) _ c.read_client.ensures _
    c.replied-after.ensures c.in-Err.is c.from-in-Err.ensures

pub write_client-requires : goal.write_client-requires
write_client-requires c = record-long _ (sym c.client_ok.ensures ∙ c.if-not-client_ok.false)

pub returns-in-Ok : goal.returns-in-Ok
returns-in-Ok c =
    let a = c.args in
    reply-done a.held.now a.number (record { 0 = a.view }) (sym c.client_ok.ensures ∙ c.if-not-client_ok.false) _ c.read_client.ensures _
    c.replied-after.ensures c.in-Ok.is (flag-byte _) c.write_client.ensures
