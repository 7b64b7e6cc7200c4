-- `whitherhaul::clients::whitherhaul_client_create` meets its contract. Assumes nothing.
use Rattle.whitherhaul.proofs.ClientLaws.{no-creation, create-refused, create-done}
use Rattle.whitherhaul.proofs.clients.whitherhaul_client_create.Goals as goal

pub returns-then-held-ne54 : goal.returns-then-held-ne54
returns-then-held-ne54 c = let a = c.args in no-creation a.n a.id a.held.now c.from.ensures c.if-held-ne54.true

pub returns-in-Err : goal.returns-in-Err
returns-in-Err c = let a = c.args in create-refused a.n a.id a.held.now c.if-held-ne54.false _ c.create-after.ensures c.in-Err.is c.from-in-Err.ensures

pub returns-in-Ok : goal.returns-in-Ok
returns-in-Ok c = let a = c.args in create-done a.n a.id a.held.now c.if-held-ne54.false _ c.create-after.ensures c.in-Ok.is c.write_client.ensures
