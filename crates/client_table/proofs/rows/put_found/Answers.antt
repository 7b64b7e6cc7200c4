-- `client_table::rows::put_found` meets its contract. Assumes nothing.
use Prim.Native.Nat.{◌<◌}
use native.Mathlib.Omega.{arith}
use Rattle.client_table.proofs.FindLaws.{row-found, none-found, found-inside}
use Rattle.client_table.proofs.LeavesLaws.{leaves_is}
use Rattle.client_table.proofs.Turns.{put-there, put-new}
use Rattle.client_table.proofs.rows.put_found.Goals as goal

pub store-requires : goal.store-requires
store-requires g c =
    let a = c.args in
    let f = g.F.Form in
    let xs = f.rows a.n a.table.now in
    let l : c.in-Ok.at < a.n =
    rw (g.met.F.Form.length_rows a.n a.table.now c.requires.0) at
    (found-inside f.shape xs (f.shape.client a.row) c.requires.1 g.met.F.Form.lawful.blank c.in-Ok.is) in
    (c.requires.0, (omega arith, l))

pub insert-requires : goal.insert-requires
insert-requires g c =
    let a = c.args in
    let f = g.F.Form in
    (c.requires.0, (none-found f.shape (f.rows a.n a.table.now) (f.shape.client a.row) c.requires.1 c.in-Err.is).1)

pub returns-in-Ok : goal.returns-in-Ok
returns-in-Ok g c =
    let a = c.args in
    let f = g.F.Form in
    let xs = f.rows a.n a.table.now in
    let r = row-found f.shape xs (f.shape.client a.row) c.requires.1 c.in-Ok.is in
    leaves_is f.rows f.rest a.n c.store.ensures (put-there f.shape xs a.row c.in-Ok.at r.1 r.0)

pub returns-in-Err : goal.returns-in-Err
returns-in-Err g c =
    let a = c.args in
    let f = g.F.Form in
    let xs = f.rows a.n a.table.now in
    let r = none-found f.shape xs (f.shape.client a.row) c.requires.1 c.in-Err.is in
    leaves_is f.rows f.rest a.n c.insert.ensures (put-new f.shape xs a.row c.in-Err.at r.1 r.0)
