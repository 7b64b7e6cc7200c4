-- `client_table::rows::follow_found` meets its contract. Assumes nothing.
use Rattle.client_table.proofs.FollowLaws.{follow-done}
use Rattle.client_table.proofs.LeavesLaws.{leaves-then, leaves_is}
use Rattle.client_table.proofs.rows.follow_found.Goals as goal

pub returns : goal.returns
returns g c =
    let a = c.args in
    let f = g.F.Form in
    let w = c.requires.1.1.1 in
    leaves_is f.rows f.rest a.n (leaves-then f.rows f.rest a.n c.append_found.ensures c.follow_commit.ensures)
    (follow-done f.shape a.change (f.rows a.n a.table.now) a.log.now a.results.now w.1.kept w.0 _ c.append_found.ensures.rows)
