-- `whitherhaul::clients::whitherhaul_read_reply` meets its contract. Assumes nothing.
use Rattle.whitherhaul.proofs.ClientLaws.{read-malformed, read-said, malformed-points, said-points}
use Rattle.whitherhaul.proofs.clients.whitherhaul_read_reply.Goals as goal

pub returns-in-Err : goal.returns-in-Err
returns-in-Err c =
    let r = c.read_reply in
    let s = c.args.frame.now in
    (read-malformed s r.result r.ensures.exact c.in-Err.is, malformed-points s r.result r.ensures.exact c.in-Err.is r.ensures.points)

pub returns-in-Ok : goal.returns-in-Ok
returns-in-Ok c =
    let r = c.read_reply in
    let s = c.args.frame.now in
    (read-said s r.result r.ensures.exact c.in-Ok.is c.from.ensures, said-points s r.result r.ensures.exact c.in-Ok.is r.ensures.points)
