-- `client_table::rows::reply` meets its contract. Assumes nothing.
use mathlib.Core.Path.{◌≡◌}
use Prim.Native.Nat.{◌<◌}
use native.Mathlib.Omega.{arith}
use borrow.Author.Rules.{rules}
use Rattle.client_table.proofs.FindLaws.{row-found, none-found, found-inside}
use Rattle.client_table.proofs.LeavesLaws.{leaves-same, leaves_is}
use Rattle.client_table.proofs.Turns.{reply-none, reply-other, reply-same}
use Rattle.client_table.proofs.rows.reply.Goals as goal

pub returns-in_default : goal.returns-in_default
returns-in_default g c =
    let a = c.args in
    let f = g.F.Form in
    let xs = f.rows a.n a.table.now in
    let r = none-found f.shape xs a.e.client c.find.ensures c.in_default.is in
    leaves_is f.rows f.rest a.n (leaves-same f.rows f.rest a.n a.table.now) (reply-none f.shape xs a.e a.o r.0)

pub returns-then-request-e : goal.returns-then-request-e
returns-then-request-e g c =
    let a = c.args in
    let f = g.F.Form in
    let xs = f.rows a.n a.table.now in
    let r = row-found f.shape xs a.e.client c.find.ensures c.in-Ok.is in
    let m : c.request.result ≡ f.shape.request c.in-Ok.x = search rules in
    leaves_is f.rows f.rest a.n (leaves-same f.rows f.rest a.n a.table.now)
    (reply-other f.shape xs a.e a.o c.in-Ok.at c.in-Ok.x r c.request.result m c.if-request-e.true)

pub store-requires : goal.store-requires
store-requires g c =
    let a = c.args in
    let f = g.F.Form in
    let xs = f.rows a.n a.table.now in
    let l : c.in-Ok.at < a.n =
    rw (g.met.F.Form.length_rows a.n a.table.now c.requires) at
    (found-inside f.shape xs a.e.client c.find.ensures g.met.F.Form.lawful.blank c.in-Ok.is) in
    (c.requires, (omega arith, l))

pub returns : goal.returns
returns g c =
    let a = c.args in
    let f = g.F.Form in
    let xs = f.rows a.n a.table.now in
    let r = row-found f.shape xs a.e.client c.find.ensures c.in-Ok.is in
    let m : c.request.result ≡ f.shape.request c.in-Ok.x = search rules in
    leaves_is f.rows f.rest a.n c.store.ensures
    (reply-same f.shape xs a.e a.o c.in-Ok.at c.in-Ok.x r c.request.result m c.if-request-e.false c.answered.result
    c.answered.ensures)
