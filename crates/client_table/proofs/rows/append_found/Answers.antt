-- `client_table::rows::append_found` meets its contract. Assumes nothing.
use Rattle.client_table.proofs.FollowLaws.{none-appended, one-appended}
use Rattle.client_table.proofs.LeavesLaws.{leaves-same, leaves_is}
use Rattle.client_table.proofs.rows.append_found.Goals as goal

pub returns-then-change : goal.returns-then-change
returns-then-change g c =
    let a = c.args in
    let f = g.F.Form in
    leaves_is f.rows f.rest a.n (leaves-same f.rows f.rest a.n a.table.now)
    (none-appended f.shape a.change (f.rows a.n a.table.now) a.log.now c.if-change.true)

pub returns : goal.returns
returns g c =
    let a = c.args in
    let f = g.F.Form in
    leaves_is f.rows f.rest a.n c.put_found.ensures
    (one-appended f.shape a.change (f.rows a.n a.table.now) a.log.now c.requires.1.1 c.if-change.false c.entry_in-e.result c.fresh.result
    c.entry_in-e.ensures c.fresh.ensures (g.met.F.Form.lawful.fresh c.entry_in-e.result).client)
