-- `replica_structs::kernel::checked` meets its contract. Assumes nothing.
use mathlib.Core.Path.{◌∙◌}
use Rattle.replica_structs.proofs.CoreLaws.{checked-by}
use Rattle.replica_structs.proofs.kernel.checked.Goals as goal

pub returns : goal.returns
returns c =
    let a = c.args in
    c.checked.ensures.exact ∙ checked-by a.log a.results a.totals a.acks a.stored a.rows c.in_bytes.ensures a.s a.frame.now
