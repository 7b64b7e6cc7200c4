-- `client_table::rows::insert` meets its contract. Assumes nothing.
use Prim.Native.Nat.{◌≤◌, ◌<◌}
use lib.ListN.{length}
use Rattle.client_table.specs.declared.Goal.TheVariants.{End}
use Rattle.client_table.proofs.LeavesLaws.{leaves-same, leaves_is}
use Rattle.client_table.proofs.SearchLaws.{seek-above}
use Rattle.client_table.proofs.Turns.{insert-full, insert-room}
use Rattle.client_table.proofs.rows.insert.Goals as goal

pub returns-then-n-to : goal.returns-then-n-to
returns-then-n-to g c =
    let a = c.args in
    let f = g.F.Form in
    let xs = f.rows a.n a.table.now in
    let l : length xs ≤ c.seek-to.result = rw (g.met.F.Form.length_rows a.n a.table.now c.requires.0) c.if-n-to.true in
    leaves_is f.rows f.rest a.n (leaves-same f.rows f.rest a.n a.table.now)
    (insert-full f.shape xs a.row a.at c.requires.1 c.seek-to.result c.seek-to.ensures l)

pub store-requires : goal.store-requires
store-requires g c =
    let a = c.args in
    let u : a.at ≤ c.seek-to.result = rw c.seek-to.ensures (seek-above g.F.Form.shape a.at End (g.F.Form.rows a.n a.table.now)) in
    (c.requires.0, (u, c.if-n-to.false))

pub returns : goal.returns
returns g c =
    let a = c.args in
    let f = g.F.Form in
    let xs = f.rows a.n a.table.now in
    let l : c.seek-to.result < length xs = rw (g.met.F.Form.length_rows a.n a.table.now c.requires.0) c.if-n-to.false in
    leaves_is f.rows f.rest a.n c.store.ensures (insert-room f.shape xs a.row a.at c.requires.1 c.seek-to.result c.seek-to.ensures l)
