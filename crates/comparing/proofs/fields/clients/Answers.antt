-- `comparing::fields::clients` meets its contract. Assumes nothing.
use Rattle.std.proofs.Common.{refl}
use Rattle.comparing.specs.Fields.{table_text}
use Rattle.comparing.proofs.FieldLaws.{table-next}
use Rattle.comparing.proofs.fields.clients.Goals as goal

pub loop-i-init : goal.loop-i-init
unfolding table_text
loop-i-init c = refl

pub loop-i-preserved : goal.loop-i-preserved
loop-i-preserved c = table-next c.args.mem.now c.loop-i.i c.loop-i.h c.with_nth-h.result c.loop-i.invariant c.with_nth-h.ensures
