-- `client_table::rows::rebuild` meets its contract. Assumes nothing.
use Rattle.client_table.proofs.FollowLaws.{rebuild-done}
use Rattle.client_table.proofs.LeavesLaws.{leaves-then, leaves-done}
use Rattle.client_table.proofs.rows.rebuild.Goals as goal

pub returns : goal.returns
returns g c =
    let a = c.args in
    let f = g.F.Form in
    let d = c.requires.1.1.1 in
    let left = leaves-then f.rows f.rest a.n (leaves-then f.rows f.rest a.n c.clear.ensures c.refill.ensures) c.follow_append.ensures in
    leaves-done f.rows f.rest a.n left
    (rebuild-done f.shape a.log.now a.results.now a.op a.done d _ _ _ _ c.clear.ensures.rows c.refill.ensures.rows c.follow_append.ensures.rows)
