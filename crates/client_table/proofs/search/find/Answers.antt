-- `client_table::search::find` meets its contract. Assumes nothing.
use Prim.Native.Nat.{◌≤◌}
use lib.ListN.{length}
use Rattle.client_table.proofs.FindLaws.{found-past, found-unused, found-other, found-his}
use Rattle.client_table.proofs.search.find.Goals as goal

pub returns-then-n-at : goal.returns-then-n-at
returns-then-n-at g c =
    let a = c.args in
    let xs = g.F.Form.rows a.n a.table.now in
    let l : length xs ≤ c.seek-at.result = rw (g.met.F.Form.length_rows a.n a.table.now c.requires) c.if-n-at.true in
    found-past g.F.Form.shape xs a.client c.seek-at.result c.seek-at.ensures g.met.F.Form.lawful.blank l c.blank.result
    c.blank.ensures

pub returns-then-not-is_used : goal.returns-then-not-is_used
returns-then-not-is_used g c =
    let a = c.args in
    found-unused g.F.Form.shape (g.F.Form.rows a.n a.table.now) a.client c.seek-at.result c.seek-at.ensures c.row_at-x.result c.row_at-x.ensures
    c.is_used.result c.is_used.ensures c.if-not-is_used.true

pub returns-then-client : goal.returns-then-client
returns-then-client g c =
    let a = c.args in
    found-other g.F.Form.shape (g.F.Form.rows a.n a.table.now) a.client c.seek-at.result c.seek-at.ensures c.row_at-x.result c.row_at-x.ensures
    c.is_used.result c.is_used.ensures c.client.result c.client.ensures c.if-client.true

pub returns : goal.returns
returns g c =
    let a = c.args in
    found-his g.F.Form.shape (g.F.Form.rows a.n a.table.now) a.client c.seek-at.result c.seek-at.ensures c.row_at-x.result c.row_at-x.ensures
    c.is_used.result c.is_used.ensures c.client.result c.client.ensures c.if-not-is_used.false c.if-client.false
