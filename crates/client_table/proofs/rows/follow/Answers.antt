-- `client_table::rows::follow` meets its contract. Assumes nothing.
use mathlib.Core.Path.{◌∙◌}
use Rattle.entries.specs.Entries.{entries}
use Rattle.fees.specs.Results.{outcomes}
use Rattle.client_table.proofs.FollowLaws.{from-op, follow-done}
use Rattle.client_table.proofs.LeavesLaws.{leaves-then, leaves_is}
use Rattle.client_table.proofs.Turns.{follow-installed}
use Rattle.client_table.proofs.rows.follow.Goals as goal

pub returns-then-change : goal.returns-then-change
returns-then-change g c =
    let a = c.args in
    let f = g.F.Form in
    leaves_is f.rows f.rest a.n c.rebuild.ensures
    (follow-installed f.shape a.change (f.rows a.n a.table.now) (entries a.change.to.0 a.log.now) (outcomes a.change.done.0 a.results.now) a.n
    (g.met.F.Form.length_rows a.n a.table.now c.requires.0) c.if-change.true)

pub returns : goal.returns
returns g c =
    let a = c.args in
    let f = g.F.Form in
    let xs = f.rows a.n a.table.now in
    leaves_is f.rows f.rest a.n (leaves-then f.rows f.rest a.n c.follow_append.ensures c.follow_commit.ensures)
    (follow-done f.shape a.change xs a.log.now a.results.now c.if-change.false c.requires.1.1.1 _
    (c.follow_append.ensures.rows ∙ from-op f.shape a.change xs a.log.now))
