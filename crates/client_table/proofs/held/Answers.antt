-- `client_table::held` meets its contract. Assumes nothing.
use mathlib.Core.Bool.{not}
use mathlib.Core.Path.{ap}
use Rattle.client_table.proofs.LatestLaws.{held-waiting, held-answered}
use Rattle.client_table.proofs.held.Goals as goal

pub returns-then-not-within : goal.returns-then-not-within
returns-then-not-within c =
    let a = c.args in
    let w = c.within in
    held-waiting a.request a.code a.total w.result w.ensures (ap not c.if-not-within.true)

pub returns : goal.returns
returns c =
    let a = c.args in
    let w = c.within in
    held-answered a.request a.code a.total w.result w.ensures (ap not c.if-not-within.false)
